use Rattle.tf_claim.proofs.Apart.{parts_add}
use Rattle.tf_claim.proofs.laws.parts_add_up.Goals as goal

pub returns : goal.returns
returns c = parts_add
