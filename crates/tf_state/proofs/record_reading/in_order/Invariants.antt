-- The records taken, and those still to take, are all.
use Rattle.std.proofs.Common.{◌≡◌, ◌++◌, map}
use Rattle.tf_state.specs.Made.{records_made}
use Rattle.tf_state_data.specs.Record.{record_of}
use Rattle.tf_state.proofs.record_reading.in_order.Given as goal

abbrev pub invariant-loop-id : goal.invariant-loop-id
invariant-loop-id l = map record_of l.ordered.items ++ records_made l.id-iterator ≡ records_made l.fn.records.entries
