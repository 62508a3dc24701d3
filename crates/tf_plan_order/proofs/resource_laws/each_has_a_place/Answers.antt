use Rattle.tf_plan_order.proofs.Standing.{each-placed}
use Rattle.tf_plan_order.proofs.resource_laws.each_has_a_place.Goals as goal

pub returns : goal.returns
returns c = each-placed
