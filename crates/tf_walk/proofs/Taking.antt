-- What was taken out of cells, in the list that it was written to.
use Rattle.std.proofs.Common.{◌≡◌, ◌∙◌, ℕ, List, ◌++◌, Option, None, replicate, length, take, drop, sym, ap, subst, arith}
use Rattle.std.proofs.lemmas.List.{length-map}
use Rattle.tf_walk_workers.specs.Ideal.{IsTrueTo}
use Rattle.tf_walk_workers.specs.Laws.{FitTogether}
use Rattle.tf_graph.specs.Digraph.{Digraph}
use Rattle.tf_walk_action.specs.ResultViews.{result_or_skipped, action_results_of}
use Rattle.tf_walk_action.specs.Outcome.{done_at}
use Rattle.tf_walk_action.specs.declared.action_result.ActionResult.{ActionResult}
use Rattle.tf_plan_data.specs.Plan.{PlanView}
use Rattle.tf_provider_protocol.specs.Meaning.{Meaning}
use Rattle.tf_walk.specs.Fitting.{IsSkippedRightly, AreSkippedRightly}
use Rattle.tf_walk.proofs.Carried.{taken-back}

-- ends that are true and that were found to fit do so
fit-taken : (named ms : List Meaning) (other plan : PlanView) (order : Digraph) (new final seen : List (Option ActionResult)) → named ≡ ms → other ≡ plan → order ≡ plan.order
    → plan.order.nodes ≡ length plan.actions → length new ≡ plan.order.nodes → final ≡ new → seen ≡ final
    → ((n : ℕ) → IsTrueTo named other n (done_at (action_results_of new) n)) → AreSkippedRightly order (action_results_of seen) → FitTogether ms plan (action_results_of final)
fit-taken named ms other plan order new final seen is-ms is-plan is-order counted sized back same fits skips =
    record {
      all = length-map final result_or_skipped ∙ (ap length back ∙ (sized ∙ counted));
      fits = λ n.
          let here = subst (λ (rs : List (Option ActionResult)). IsTrueTo named other n (done_at (action_results_of rs) n)) (sym back) (fits n) in
          subst (λ (m : List Meaning). IsTrueTo m plan n (done_at (action_results_of final) n)) is-ms (subst (λ (p : PlanView). IsTrueTo named p n (done_at (action_results_of final) n)) is-plan here);
      skips = λ n below.
          let nodes = ap (λ (d : Digraph). d.nodes) is-order in
          let here = subst (λ (rs : List (Option ActionResult)). IsSkippedRightly order (action_results_of rs) n) same (skips n (omega (arith, nodes, counted, below))) in
          subst (λ (d : Digraph). IsSkippedRightly d (action_results_of final) n) is-order here;
    }

-- so do those in a list for so many actions that was lent to be filled
pub fit-lent : (named ms : List Meaning) (other plan : PlanView) (order : Digraph) (new items : List (Option ActionResult)) (len : ℕ) (seen : List (Option ActionResult)) → named ≡ ms → other ≡ plan → order ≡ plan.order
    → plan.order.nodes ≡ length plan.actions → length new ≡ plan.order.nodes → items ≡ replicate plan.order.nodes None → length items ≡ len → seen ≡ take len (new ++ drop (length new) items)
    → ((n : ℕ) → IsTrueTo named other n (done_at (action_results_of new) n)) → AreSkippedRightly order (action_results_of seen) → FitTogether ms plan (action_results_of (take len (new ++ drop (length new) items)))
fit-lent named ms other plan order new items len seen is-ms is-plan is-order counted sized start long same fits skips =
    fit-taken named ms other plan order new (take len (new ++ drop (length new) items)) seen is-ms is-plan is-order counted sized (taken-back new items len plan.order.nodes sized start long) same fits skips
