use Rattle.tf_claim.proofs.Apart.{joined_apart}
use Rattle.tf_claim.proofs.laws.joined_are_apart.Goals as goal

pub returns : goal.returns
returns c = joined_apart
