use Rattle.tf_state_data.specs.State.{state_of}
use Rattle.tf_cli_inputs.proofs.reading.read_prior.Goals as goal

pub returns-in_default-clause-valid : goal.returns-in_default-clause-valid
returns-in_default-clause-valid c = rw c.in_ok-empty.ensures (c.new_states_are_valid.ensures.empty c.args.lineage.now)

pub returns-in-Ok-clause-valid : goal.returns-in-Ok-clause-valid
returns-in-Ok-clause-valid c = c.read_states_are_valid.ensures c.in-Some.text.now (state_of c.in-Ok.state) c.in-Ok.ensures.ok
