use Rattle.tf_plan_decision.proofs.Equal.{beside_equal_nothing, nothing_beside_equal}
use Rattle.tf_plan_decision.proofs.Planned.{beside_planned}
use Rattle.tf_plan_decision.proofs.laws.nothing_is_done_beside_equal.Goals as goal

pub returns : goal.returns
returns c = record { only = nothing_beside_equal; there = beside_equal_nothing; planned = beside_planned }
