-- as many as the entries passed tell answers, and no more than were passed
use Rattle.std.proofs.Common.{◌≡◌, ◌≤◌, map, take}
use Rattle.tf_provider_log.specs.LogEntry.{log_entry_of}
use Rattle.tf_provider_log.specs.Replayed.{answer_count}
use Rattle.tf_provider_log.proofs.entries.answer_count.Given as goal

abbrev pub invariant-loop-entry : goal.invariant-loop-entry
invariant-loop-entry l = (l.count ≡ answer_count (map log_entry_of (take l.entry-index l.entries))) × (l.count ≤ l.entry-index)
