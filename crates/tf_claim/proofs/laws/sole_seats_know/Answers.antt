use Rattle.tf_claim.proofs.Apart.{sole_is_all, sole_knows}
use Rattle.tf_claim.proofs.laws.sole_seats_know.Goals as goal

pub returns : goal.returns
returns c = record { all = sole_is_all; known = sole_knows }
