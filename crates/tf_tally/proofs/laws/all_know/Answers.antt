use Rattle.tf_tally.proofs.Steps.{all_know}
use Rattle.tf_tally.proofs.laws.all_know.Goals as goal

pub returns : goal.returns
returns g c = all_know _
