-- What is read from here on, onto the outputs found, is what is read from the start.
use Rattle.std.proofs.Common.{◌≡◌}
use Rattle.serde_json.specs.View.{members_view}
use Rattle.tf_value_data.specs.Tree.{no_entries}
use Rattle.tf_state.specs.Reading.{output_in, values_in}
use Rattle.tf_state_data.specs.State.{outputs_of}
use Rattle.tf_state.proofs.reading.read_each_output.Given as goal

abbrev pub invariant-loop-key : goal.invariant-loop-key
invariant-loop-key l = values_in output_in (members_view l.key-iterator) (outputs_of l.outputs.entries) ≡ values_in output_in (members_view l.members.entries) no_entries
