use Rattle.tf_plan_order.proofs.Chains.{stage-strict}
use Rattle.tf_plan_order.proofs.laws.stage_is_strict.Goals as goal

pub returns : goal.returns
returns c = stage-strict
