use Rattle.tf_state.proofs.Kept.{empty_valid}
use Rattle.tf_state.proofs.laws.new_states_are_valid.Goals as goal

pub returns-clause-empty : goal.returns-clause-empty
returns-clause-empty c = empty_valid
