-- the copies of the entries passed
use Rattle.std.proofs.Common.{◌≡◌, map, take}
use Rattle.tf_provider_log.specs.LogEntry.{log_entry_of}
use Rattle.tf_provider_log.proofs.copies.copy_entries.Given as goal

abbrev pub invariant-loop-entry : goal.invariant-loop-entry
invariant-loop-entry l =
    map log_entry_of l.copies.items ≡ map log_entry_of (take l.entry-index l.entries)
