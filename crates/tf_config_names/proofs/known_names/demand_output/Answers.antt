use Rattle.tf_config_refusal.proofs.Places.{place_of-Root, place_of-Member}
use Rattle.tf_config_names.proofs.known_names.demand_output.Goals as goal

pub returns : goal.returns
returns c = rw (place_of-Member, place_of-Member, place_of-Member, place_of-Root) at c.demand_expr.ensures
