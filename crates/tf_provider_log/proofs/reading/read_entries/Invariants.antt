use Rattle.std.proofs.Common.{◌≡◌, ◌≤◌, ◌+◌, length, map}
use Rattle.tf_provider_log.specs.LogEntry.{log_entry_of}
use Rattle.tf_provider_log.specs.Line.{lines_of}
use Rattle.tf_provider_log.specs.Log.{entries_in}
use Rattle.tf_provider_log.proofs.Lined.{onto}
use Rattle.tf_provider_log.proofs.reading.read_entries.Given as goal

abbrev pub invariant-loop-line : goal.invariant-loop-line
invariant-loop-line l = record {
  fits : l.number + length l.rest ≤ length l.bytes + 2;
  told : entries_in 2 (lines_of l.bytes) ≡ onto (map log_entry_of l.entries.items) (entries_in l.number (lines_of l.rest));
}

abbrev pub decreases-loop-line : goal.decreases-loop-line
decreases-loop-line l = length l.rest
