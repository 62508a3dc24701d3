-- What is read from here on, onto the records found, is what is read from the start.
use Rattle.std.proofs.Common.{◌≡◌, []}
use Rattle.serde_json.specs.View.{items_view}
use Rattle.tf_state.specs.Made.{records_made}
use Rattle.tf_state.specs.Reading.{records_in}
use Rattle.tf_state.proofs.record_reading.read_records.Given as goal

abbrev pub invariant-loop-item : goal.invariant-loop-item
invariant-loop-item l = records_in (items_view l.item-iterator.rest.items) (records_made l.records.entries) ≡ records_in (items_view l.initial.item-iterator.rest.items) []
