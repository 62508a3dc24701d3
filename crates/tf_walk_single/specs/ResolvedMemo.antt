-- The values of names that a walk by one thread keeps from one request to the next.
use Rattle.std.specs.Prelude.{◌≡◌, ◌<◌, ℕ, true, List, Option, IfSome}
use Rattle.std.specs.List.{list_all}
use Rattle.tf_expand_keys.specs.declared.resolved.Resolved.{Resolved}
use Rattle.tf_graph.specs.Digraph.{predecessors_of}
use Rattle.tf_graph.specs.Solutions.{seen_by}
use Rattle.tf_plan_data.specs.Plan.{PlanView}
use Rattle.tf_walk_action.specs.Outcome.{ActionResultView, is_good, objects_by}
use Rattle.tf_walk_action.specs.SoFar.{ResolvedSoFar}
use Rattle.tf_walk_single.specs.Ends.{done_in}
use Rattle.tf_walk_single.specs.declared.resolved_memo.ResolvedMemo.{ResolvedMemo}

-- What is kept holds after some actions: all of them are good, and each value so far is right by their results.
pub record HoldsBehind (plan : PlanView) (ends : List (Option ActionResultView)) (actions : List ℕ) (kept : List Resolved) : Type 0 where
  pub good : list_all (λ n. is_good (done_in ends n)) actions ≡ true
  pub so_far : ResolvedSoFar plan (objects_by plan (seen_by (done_in ends) actions)) kept

-- A memo is true if what it keeps holds after the actions directly before its own. A memo that is for no action yet is
-- true.
abbrev pub IsTrueResolvedMemo : PlanView → List (Option ActionResultView) → ResolvedMemo → Type 0
IsTrueResolvedMemo plan ends memo = IfSome memo.action (λ own. (own < plan.order.nodes) × HoldsBehind plan ends (predecessors_of plan.order own) memo.kept.items)
