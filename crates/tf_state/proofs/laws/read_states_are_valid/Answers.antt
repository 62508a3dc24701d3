use Rattle.tf_state.proofs.ReadValid.{read_is_valid}
use Rattle.tf_state.proofs.laws.read_states_are_valid.Goals as goal

pub returns : goal.returns
returns c = read_is_valid
