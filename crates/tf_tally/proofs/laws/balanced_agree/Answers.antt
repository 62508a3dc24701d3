use Rattle.tf_tally.proofs.Steps.{balanced_agree}
use Rattle.tf_tally.proofs.laws.balanced_agree.Goals as goal

pub returns : goal.returns
returns g c = balanced_agree _
