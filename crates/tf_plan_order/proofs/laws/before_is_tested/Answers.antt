use Rattle.tf_plan_order.proofs.Listed.{before-tested}
use Rattle.tf_plan_order.proofs.laws.before_is_tested.Goals as goal

pub returns : goal.returns
returns c = before-tested
