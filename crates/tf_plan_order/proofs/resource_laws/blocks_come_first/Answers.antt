use Rattle.tf_plan_order.proofs.Standing.{blocks-first}
use Rattle.tf_plan_order.proofs.resource_laws.blocks_come_first.Goals as goal

pub returns : goal.returns
returns c = blocks-first
