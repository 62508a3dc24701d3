-- Which plans determine a report on them, up to its excuses.
use Rattle.std.specs.Prelude.{length}
use Rattle.std.specs.List.{AllByRecursion}
use Rattle.tf_config_data.specs.Names.{directly_before}
use Rattle.tf_graph.specs.Digraph.{predecessors_of}
use Rattle.tf_graph.specs.Solutions.{Ranked, StaysBelow}
use Rattle.tf_plan_data.specs.Fits.{FitsTogether, IsDeclared}
use Rattle.tf_plan_data.specs.Plan.{PlanView, plan_names, plan_of}
use Rattle.tf_plan_data.specs.declared.plan.Plan.{Plan}
use Rattle.tf_plan_order.specs.Order.{IsOrder}

-- No name of a plan's configuration needs itself; no chain of its actions leads back, and only actions are before actions; and
-- each create and each update is of a block's instance. So each rule that defines a report has one solution.
pub record IsFounded (plan : PlanView) : Type 0 where
  pub names : Ranked (directly_before (plan_names plan))
  pub order : Ranked (predecessors_of plan.order)
  pub within : StaysBelow (length plan.actions) (predecessors_of plan.order)
  pub declared : AllByRecursion (IsDeclared (plan_names plan)) plan.actions

-- A plan whose parts fit together is founded, if its order is one in which no chain leads back.
abbrev pub FittingPlansAreFounded : Type 0
FittingPlansAreFounded = (plan : Plan) → FitsTogether plan → IsOrder plan.order → IsFounded (plan_of plan)
