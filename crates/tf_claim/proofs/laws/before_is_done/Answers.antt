use Rattle.tf_claim.proofs.Apart.{seen_done, claimed_before}
use Rattle.tf_claim.proofs.laws.before_is_done.Goals as goal

pub returns : goal.returns
returns c = record { seen = seen_done; claimed = claimed_before }
