use Rattle.tf_plan_order.proofs.Standing.{places-differ}
use Rattle.tf_plan_order.proofs.resource_laws.places_differ.Goals as goal

pub returns : goal.returns
returns c = places-differ
