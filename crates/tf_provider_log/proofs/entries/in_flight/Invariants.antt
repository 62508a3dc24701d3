-- the requests of the entries passed that haven't ended
use Rattle.std.proofs.Common.{◌≡◌, map, take}
use Rattle.std.specs.Prelude.{filter_map}
use Rattle.tf_provider_log.specs.LogEntry.{log_entry_of}
use Rattle.tf_provider_log.specs.Replayed.{open_of}
use Rattle.tf_provider_protocol.specs.Meaning.{asked}
use Rattle.tf_provider_log.proofs.entries.in_flight.Given as goal

abbrev pub invariant-loop-entry : goal.invariant-loop-entry
invariant-loop-entry l =
    map asked l.requests.items ≡ filter_map (open_of (map log_entry_of l.entries)) (map log_entry_of (take l.entry-index l.entries))
