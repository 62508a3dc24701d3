use Rattle.std.proofs.Common.{map, drop}
use Rattle.serde_json.specs.Events.{SendsItems}
use Rattle.serde_json.specs.View.{items_of}
use Rattle.tf_state_data.specs.Record.{record_of}
use Rattle.tf_state.specs.Text.{record_data}
use Rattle.tf_value_json.proofs.Sent.{GoesOn}
use Rattle.tf_state.proofs.writing.send_records.Given as goal

abbrev pub invariant-loop-record : goal.invariant-loop-record
invariant-loop-record g l =
    GoesOn SendsItems (items_of (map record_data (map record_of (drop l.record-index l.records)))) (g.S.Serializer.written l.out) (items_of (map record_data (map record_of l.records))) (g.S.Serializer.written l.initial.out)
