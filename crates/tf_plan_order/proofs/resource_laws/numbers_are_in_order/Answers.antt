use Rattle.tf_plan_order.proofs.Standing.{numbers-in_order}
use Rattle.tf_plan_order.proofs.resource_laws.numbers_are_in_order.Goals as goal

pub returns : goal.returns
returns c = numbers-in_order
