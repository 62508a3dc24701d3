use Rattle.tf_plan_order.proofs.Listed.{pairs-those}
use Rattle.tf_plan_order.proofs.laws.pairs_are_those.Goals as goal

pub returns : goal.returns
returns c = pairs-those
