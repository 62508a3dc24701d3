-- none of the entries passed tells an answer
use Rattle.std.proofs.Common.{◌≡◌, map, drop}
use Rattle.tf_provider_log.specs.LogEntry.{log_entry_of}
use Rattle.tf_provider_log.specs.Replayed.{answer_in}
use Rattle.tf_provider_protocol.specs.Meaning.{asked}
use Rattle.tf_provider_log.proofs.replaying.first_answer.Given as goal

abbrev pub invariant-loop-entry : goal.invariant-loop-entry
invariant-loop-entry l =
    answer_in (map log_entry_of (drop l.entry-index l.entries)) (asked l.request) ≡ answer_in (map log_entry_of l.entries) (asked l.request)
