use Rattle.tf_state_next.proofs.Validity.{state_after_valid}
use Rattle.tf_state_next.proofs.laws.state_after_is_valid.Goals as goal

pub returns : goal.returns
returns c = state_after_valid
