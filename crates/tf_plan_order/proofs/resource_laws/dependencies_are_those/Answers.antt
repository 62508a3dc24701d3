use Rattle.tf_plan_order.proofs.Naming.{dependencies-those}
use Rattle.tf_plan_order.proofs.resource_laws.dependencies_are_those.Goals as goal

pub returns : goal.returns
returns c = dependencies-those
