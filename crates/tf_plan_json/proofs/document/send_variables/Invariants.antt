use Rattle.serde_json.specs.Events.{SendsMembers}
use Rattle.tf_plan_json.specs.Document.{variable_data}
use Rattle.tf_plan_json.specs.Members.{members_by}
use Rattle.tf_value_data.specs.Tree.{entries_view}
use Rattle.tf_value_json.proofs.Sent.{GoesOn}
use Rattle.tf_plan_json.proofs.document.send_variables.Given as goal

abbrev pub invariant-loop-name : goal.invariant-loop-name
invariant-loop-name g l =
    GoesOn SendsMembers (members_by variable_data (entries_view l.name-iterator)) (g.S.Serializer.written l.out) (members_by variable_data (entries_view l.initial.name-iterator)) (g.S.Serializer.written l.initial.out)
