use Rattle.serde_json.specs.Events.{SendsMembers}
use Rattle.tf_state_data.specs.State.{outputs_of}
use Rattle.tf_state.specs.Text.{outputs_data}
use Rattle.tf_value_json.proofs.Sent.{GoesOn}
use Rattle.tf_state.proofs.writing.send_outputs.Given as goal

abbrev pub invariant-loop-name : goal.invariant-loop-name
invariant-loop-name g l =
    GoesOn SendsMembers (outputs_data (outputs_of l.name-iterator)) (g.S.Serializer.written l.out) (outputs_data (outputs_of l.initial.name-iterator)) (g.S.Serializer.written l.initial.out)
