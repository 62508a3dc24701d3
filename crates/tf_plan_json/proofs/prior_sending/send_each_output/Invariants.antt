use Rattle.serde_json.specs.Events.{SendsMembers}
use Rattle.tf_plan_json.specs.Members.{members_by}
use Rattle.tf_plan_json.specs.Prior.{output_data}
use Rattle.tf_state_data.specs.State.{outputs_of}
use Rattle.tf_value_json.proofs.Sent.{GoesOn}
use Rattle.tf_plan_json.proofs.prior_sending.send_each_output.Given as goal

abbrev pub invariant-loop-name : goal.invariant-loop-name
invariant-loop-name g l =
    GoesOn SendsMembers (members_by output_data (outputs_of l.name-iterator)) (g.S.Serializer.written l.out) (members_by output_data (outputs_of l.initial.name-iterator)) (g.S.Serializer.written l.initial.out)
