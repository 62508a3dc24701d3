use Rattle.tf_plan_order.proofs.Spreading.{acyclic-strict}
use Rattle.tf_plan_order.proofs.laws.acyclic_is_strict.Goals as goal

pub returns : goal.returns
returns c = acyclic-strict
