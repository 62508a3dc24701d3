use Rattle.std.proofs.Common.{map, drop}
use Rattle.serde_json.specs.Events.{SendsMembers}
use Rattle.tf_plan_json.specs.Document.{output_members}
use Rattle.tf_plan_outputs.specs.Views.{change_view}
use Rattle.tf_value_json.proofs.Sent.{GoesOn}
use Rattle.tf_plan_json.proofs.output_sending.send_each_change.Given as goal

abbrev pub invariant-loop-output : goal.invariant-loop-output
invariant-loop-output g l =
    GoesOn SendsMembers (output_members (map change_view (drop l.output-index l.outputs))) (g.S.Serializer.written l.out) (output_members (map change_view l.outputs)) (g.S.Serializer.written l.initial.out)
