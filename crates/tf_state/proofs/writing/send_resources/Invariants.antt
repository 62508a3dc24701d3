use Rattle.std.proofs.Common.{map, drop}
use Rattle.serde_json.specs.Events.{SendsItems}
use Rattle.serde_json.specs.View.{items_of}
use Rattle.tf_state_data.specs.Resource.{resource_of}
use Rattle.tf_state.specs.Arrangement.{with_records}
use Rattle.tf_state.specs.Text.{resource_data}
use Rattle.tf_value_json.proofs.Sent.{GoesOn}
use Rattle.tf_state.proofs.writing.send_resources.Given as goal

abbrev pub invariant-loop-resource : goal.invariant-loop-resource
invariant-loop-resource g l =
    GoesOn SendsItems (items_of (map resource_data (with_records (map resource_of (drop l.resource-index l.resources))))) (g.S.Serializer.written l.out)
    (items_of (map resource_data (with_records (map resource_of l.resources)))) (g.S.Serializer.written l.initial.out)
