-- What a walk by one thread keeps stays true.
use Rattle.std.proofs.Common.{◌≡◌, ◌<◌, ℕ, true, List, length, map, set, Option, Some, None, option_map, refl, ap, sym, subst, ◌∙◌}
use Rattle.std.specs.Prelude.{is_some, unwrap_or, IfSome}
use Rattle.std.specs.List.{list_all}
use Rattle.tf_config_address.specs.ObjectId.{InstanceKeyView}
use Rattle.tf_config_data.specs.Names.{NameView}
use Rattle.tf_expand_keys.specs.declared.resolved.Resolved.{Resolved}
use Rattle.tf_graph.specs.Digraph.{predecessors_of}
use Rattle.tf_graph.specs.Solutions.{seen_by}
use Rattle.tf_plan_data.specs.Action.{ActionView}
use Rattle.tf_plan_data.specs.Plan.{PlanView, plan_names}
use Rattle.tf_value_data.specs.Tree.{Tree}
use Rattle.tf_walk_action.proofs.Calling.{seen_objects}
use Rattle.tf_walk_action.specs.ResultViews.{action_result_of, action_results_of}
use Rattle.tf_walk_action.specs.Outcome.{ActionResultView, skipped, done_at, is_good, objects_by, objects_seen}
use Rattle.tf_walk_action.specs.declared.action_result.ActionResult.{ActionResult}
use Rattle.tf_walk_action.specs.SoFar.{ResolvedSoFar}
use Rattle.tf_walk_single.specs.Ends.{end_at, done_in}
use Rattle.tf_walk_single.specs.ResolvedMemo.{HoldsBehind, IsTrueResolvedMemo}
use Rattle.tf_walk_single.specs.declared.resolved_memo.ResolvedMemo.{ResolvedMemo}
use Rattle.tf_walk_single.proofs.Seen.{list_all-weaker, seen-are}
use Rattle.tf_walk_single.proofs.SoFar.{done_stays, seen_stays}

good_some : (o : Option ActionResultView) → is_good (unwrap_or o skipped) ≡ true → is_some o ≡ true
good_some None h = absurd (cc)
good_some (Some d) h = refl

-- what holds behind good actions does once another has ended
pub holds-more : {plan : PlanView} {ends : List (Option ActionResultView)} {actions : List ℕ} {kept : _} (n : ℕ) (d : ActionResultView) → n < length ends → end_at ends n ≡ None
    → HoldsBehind plan ends actions kept → HoldsBehind plan (set ends n (Some d)) actions kept
holds-more {plan} {ends} {actions} {kept} n d h free holds =
    let ended : list_all (λ m. is_some (end_at ends m)) actions ≡ true = list_all-weaker (λ m. is_good (done_in ends m)) (λ m. is_some (end_at ends m)) actions (λ m good. good_some (end_at ends m) good) holds.good in
    record {
      good = list_all-weaker (λ m. is_good (done_in ends m)) (λ m. is_good (done_in (set ends n (Some d)) m)) actions
          (λ m good. ap is_good (done_stays ends n d m h free (good_some (end_at ends m) good)) ∙ good) holds.good;
      so_far = rw (seen_stays ends n d actions h free ended) holds.so_far;
    }

-- and so does a memo
pub memo-more : (plan : PlanView) (ends : List (Option ActionResultView)) (memo : ResolvedMemo) (n : ℕ) (d : ActionResultView) → n < length ends → end_at ends n ≡ None
    → IsTrueResolvedMemo plan ends memo → IsTrueResolvedMemo plan (set ends n (Some d)) memo
memo-more plan ends memo n d h free is = by_action memo.action is
  where
    by_action : (o : Option ℕ) → IfSome o (λ own. (own < plan.order.nodes) × HoldsBehind plan ends (predecessors_of plan.order own) memo.kept.items)
        → IfSome o (λ own. (own < plan.order.nodes) × HoldsBehind plan (set ends n (Some d)) (predecessors_of plan.order own) memo.kept.items)
    by_action None is = tt
    by_action (Some own) is = (is.0, holds-more n d h free is.1)

-- what names stand for is worked out by what came of the actions directly before one
pub seen_behind : (plan : PlanView) (names : List NameView) (actions : List ActionView) (results : List (Option ActionResult)) (nodes : List ℕ) (n : ℕ) → names ≡ plan_names plan → actions ≡ plan.actions → nodes ≡ predecessors_of plan.order n
    → objects_seen names plan.prior actions (seen_by (done_at (action_results_of results)) nodes) ≡ objects_by plan (seen_by (done_in (map (option_map action_result_of) results)) (predecessors_of plan.order n))
seen_behind plan names actions results nodes n same alike before =
    seen_objects plan names actions (seen_by (done_at (action_results_of results)) nodes) (seen_by (done_in (map (option_map action_result_of) results)) (predecessors_of plan.order n)) same alike
    (ap (seen_by (done_at (action_results_of results))) before ∙ seen-are results (predecessors_of plan.order n))

module _ (plan : PlanView) (ends : List (Option ActionResultView)) (memo : ResolvedMemo) (n : ℕ) (own : memo.action ≡ Some n) (is : IsTrueResolvedMemo plan ends memo) (objects : ℕ → InstanceKeyView → Tree)
    (same : objects ≡ objects_by plan (seen_by (done_in ends) (predecessors_of plan.order n))) where
  its_own : (n < plan.order.nodes) × HoldsBehind plan ends (predecessors_of plan.order n) memo.kept.items
  its_own = subst (λ o. IfSome o (λ k. (k < plan.order.nodes) × HoldsBehind plan ends (predecessors_of plan.order k) memo.kept.items)) own is

  -- so by that all actions directly before it are good
  pub memo-good : list_all (λ k. is_good (done_in ends k)) (predecessors_of plan.order n) ≡ true
  memo-good = its_own.1.good

  -- what a memo of the action keeps stands
  pub memo-stands : ResolvedSoFar plan objects memo.kept.items
  memo-stands = subst (λ o. ResolvedSoFar plan o memo.kept.items) (sym same) its_own.1.so_far

  -- and what stands so may be kept
  pub memo-keeps : (kept : List Resolved) → ResolvedSoFar plan objects kept → IfSome memo.action (λ k. (k < plan.order.nodes) × HoldsBehind plan ends (predecessors_of plan.order k) kept)
  memo-keeps kept stands =
      subst (λ o. IfSome o (λ k. (k < plan.order.nodes) × HoldsBehind plan ends (predecessors_of plan.order k) kept)) (sym own)
      (its_own.0, record { good = its_own.1.good; so_far = subst (λ o. ResolvedSoFar plan o kept) same stands })
