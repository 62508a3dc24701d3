use Rattle.tf_claim.proofs.Apart.{act_once}
use Rattle.tf_claim.proofs.laws.seats_act_once.Goals as goal

pub returns : goal.returns
returns c = act_once
