use Rattle.tf_state_next.proofs.One.{state_after_one}
use Rattle.tf_state_next.proofs.laws.state_after_is_one.Goals as goal

pub returns : goal.returns
returns c = state_after_one
