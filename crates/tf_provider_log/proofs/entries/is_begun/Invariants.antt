-- none of the entries passed is about the request
use Rattle.std.proofs.Common.{◌≡◌, map, drop}
use Rattle.std.specs.List.{list_any}
use Rattle.tf_provider_log.specs.LogEntry.{log_entry_of}
use Rattle.tf_provider_log.specs.Replayed.{is_about}
use Rattle.tf_provider_protocol.specs.Meaning.{asked}
use Rattle.tf_provider_log.proofs.entries.is_begun.Given as goal

abbrev pub invariant-loop-entry : goal.invariant-loop-entry
invariant-loop-entry l =
    list_any (is_about (asked l.request)) (map log_entry_of (drop l.entry-index l.entries)) ≡ list_any (is_about (asked l.request)) (map log_entry_of l.entries)
