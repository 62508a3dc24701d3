use Rattle.tf_claim.proofs.Apart.{taken_claimed, held_free}
use Rattle.tf_claim.proofs.laws.taken_is_claimed.Goals as goal

pub returns : goal.returns
returns c = record { claimed = taken_claimed; held = held_free }
