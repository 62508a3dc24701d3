use Rattle.tf_plan_order.proofs.Standing.{resources-apart}
use Rattle.tf_plan_order.proofs.resource_laws.resources_stay_apart.Goals as goal

pub returns : goal.returns
returns c = resources-apart
