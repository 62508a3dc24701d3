-- The values of names that requests have in common.
use Rattle.std.specs.Prelude.{◌<◌, ℕ, IfSome}
use Rattle.tf_graph.specs.Digraph.{predecessors_of}
use Rattle.tf_graph.specs.Solutions.{seen_by}
use Rattle.tf_plan_data.specs.Plan.{PlanView}
use Rattle.tf_value_data.specs.Tree.{Tree}
use Rattle.tf_walk_action.specs.Outcome.{objects_by}
use Rattle.tf_walk_action.specs.SoFar.{ResolvedSoFar}
use Rattle.tf_walk_requests.specs.Asks.{results_with}
use Rattle.tf_walk_requests.specs.declared.memo.Memo.{Memo}

-- The values of a memo are right, if actions have these objects, for each action with the same actions directly before it as the memo's own one.
abbrev pub IsTrueOf : PlanView → (ℕ → Tree) → Memo → Type 0
IsTrueOf plan objects memo = IfSome memo.action (λ own. (own < plan.order.nodes) × ResolvedSoFar plan (objects_by plan (seen_by (results_with objects) (predecessors_of plan.order own))) memo.kept.items)
