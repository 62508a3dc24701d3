use Rattle.std.proofs.Common.{map, drop}
use Rattle.serde_json.specs.Events.{SendsItems}
use Rattle.serde_json.specs.View.{items_of}
use Rattle.tf_plan_data.specs.Action.{names_of}
use Rattle.tf_plan_json.specs.Document.{path_data}
use Rattle.tf_value_json.proofs.Sent.{GoesOn}
use Rattle.tf_plan_json.proofs.changing.send_each.Given as goal

abbrev pub invariant-loop-name : goal.invariant-loop-name
invariant-loop-name g l =
    GoesOn SendsItems (items_of (map path_data (names_of (drop l.name-index l.names)))) (g.S.Serializer.written l.out) (items_of (map path_data (names_of l.names))) (g.S.Serializer.written l.initial.out)
