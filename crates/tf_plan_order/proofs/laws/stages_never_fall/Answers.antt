use Rattle.tf_plan_order.proofs.Chains.{stages-never_fall}
use Rattle.tf_plan_order.proofs.laws.stages_never_fall.Goals as goal

pub returns : goal.returns
returns c = stages-never_fall
