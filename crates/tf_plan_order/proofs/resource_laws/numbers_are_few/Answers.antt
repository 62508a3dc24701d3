use Rattle.tf_plan_order.proofs.Standing.{numbers-few}
use Rattle.tf_plan_order.proofs.resource_laws.numbers_are_few.Goals as goal

pub returns : goal.returns
returns c = numbers-few
