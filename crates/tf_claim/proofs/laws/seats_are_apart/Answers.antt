use Rattle.tf_claim.proofs.Apart.{claims_apart, ends_apart, releases_apart}
use Rattle.tf_claim.proofs.laws.seats_are_apart.Goals as goal

pub returns : goal.returns
returns c = record { claims = claims_apart; ends = ends_apart; releases = releases_apart }
