use Rattle.tf_plan_order.proofs.Standing.{places-true}
use Rattle.tf_plan_order.proofs.resource_laws.places_are_true.Goals as goal

pub returns : goal.returns
returns c = places-true
