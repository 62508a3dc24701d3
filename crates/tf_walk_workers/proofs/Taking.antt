-- Taking ends out of their cells, step by step.
use Rattle.std.proofs.Common.{◌≡◌, ◌<◌, ◌+◌, ◌++◌, ◌∷◌, [], ◌∙◌, ℕ, zero, suc, List, length, replicate, Option, Some, None, IfSome, get_or, refl, sym, ap, subst, arith}
use Rattle.std.proofs.Math.Decide.{ℕ_discrete}
use Rattle.std.proofs.Math.Logic.{dite}
use Rattle.std.proofs.lemmas.List.{get_or_append_left, get_or_push, get_or-set_same, get_or-set_other, length_push, length-replicate, length-set}
use Rattle.std.specs.Prelude.{slice_set}
use Rattle.tf_plan_data.specs.Plan.{PlanView}
use Rattle.tf_provider_protocol.specs.Meaning.{Meaning}
use Rattle.tf_walk_action.specs.ResultViews.{result_or_skipped, action_results_of, ended_action}
use Rattle.tf_walk_action.specs.Outcome.{done_at}
use Rattle.tf_walk_action.specs.declared.action_result.ActionResult.{ActionResult}
use Rattle.tf_walk_workers.specs.Ideal.{IsEndOf, IsTrueTo, IsNumbered}
use Rattle.tf_walk_workers.proofs.TakingOut.{IsTakenOut}

-- where nothing is known of an action, it counts as skipped
pub one_done : (results : List (Option ActionResult)) (n : ℕ) → done_at (action_results_of results) n ≡ result_or_skipped (get_or results n None)
one_done [] n = refl
one_done (o ∷ results) zero = refl
one_done (o ∷ results) (suc n) = one_done results n

none_known : (count n : ℕ) → get_or (replicate {A = Option ActionResult} count None) n None ≡ None
none_known zero n = refl
none_known (suc count) zero = refl
none_known (suc count) (suc n) = none_known count n

own_at : (results : List (Option ActionResult)) (n : ℕ) (o : Option ActionResult) → get_or results n None ≡ o → IfSome o (λ ended. ended_action ended ≡ n) → IfSome (get_or results n None) (λ ended. ended_action ended ≡ n)
own_at results n o is own = subst (λ (x : Option ActionResult). IfSome x (λ ended. ended_action ended ≡ n)) (sym is) own

-- what a cell has is of its action, and true of it
cell-own : (ms : List Meaning) (plan : PlanView) (n : ℕ) (o : Option ActionResult) → IfSome o (IsEndOf ms plan n) → IfSome o (λ ended. ended_action ended ≡ n)
cell-own ms plan n None is = tt
cell-own ms plan n (Some ended) is = is.0

cell-fits : (ms : List Meaning) (plan : PlanView) (n : ℕ) (o : Option ActionResult) → IfSome o (IsEndOf ms plan n) → IsTrueTo ms plan n (result_or_skipped o)
cell-fits ms plan n None is = λ requests ideal ideally. tt
cell-fits ms plan n (Some ended) is = is.2

module _ (ms : List Meaning) (plan : PlanView) (count : ℕ) where
  -- what is known of a place, by what stands there
  fits_at : (results : List (Option ActionResult)) (n : ℕ) (o : Option ActionResult) → get_or results n None ≡ o → IsTrueTo ms plan n (result_or_skipped o) → IsTrueTo ms plan n (done_at (action_results_of results) n)
  fits_at results n o is fits = subst (IsTrueTo ms plan n) (sym (one_done results n ∙ ap result_or_skipped is)) fits

  pub none-taken : (cells : List ℕ) (results : List (Option ActionResult)) → IsNumbered cells → length cells ≡ count → results ≡ replicate count None → IsTakenOut ms plan count cells results
  none-taken cells results numbered all free =
      record {
        numbered = numbered;
        sized = ap length free ∙ length-replicate count None;
        within = omega (arith, all);
        free = λ n below. ap (λ rs. get_or rs n None) free ∙ none_known count n;
        own = λ n. own_at results n None (ap (λ rs. get_or rs n None) free ∙ none_known count n) tt;
        fits = λ n. fits_at results n None (ap (λ rs. get_or rs n None) free ∙ none_known count n) (λ requests ideal is. tt);
      }

  -- the last cell is gone
  pub one-less : (cells rest : List ℕ) (cell : ℕ) (results : List (Option ActionResult)) → cells ≡ rest ++ cell ∷ [] → IsTakenOut ms plan count cells results → IsTakenOut ms plan count rest results
  one-less cells rest cell results is so_far =
      let all : length cells ≡ length rest + 1 = ap length is ∙ length_push rest cell in
      record {
        numbered = λ n below. sym (get_or_append_left rest (cell ∷ []) 0 n below) ∙ ap (λ cs. get_or cs n 0) (sym is) ∙ so_far.numbered n (omega (arith, all));
        sized = so_far.sized;
        within = (let w = so_far.within in omega (arith, all));
        free = λ n below. so_far.free n (omega (arith, all));
        own = so_far.own;
        fits = so_far.fits;
      }

  -- it was that of the action behind those that are left
  pub last-cell : (cells rest : List ℕ) (cell : ℕ) (results : List (Option ActionResult)) → cells ≡ rest ++ cell ∷ [] → IsTakenOut ms plan count cells results → cell ≡ length rest
  last-cell cells rest cell results is so_far =
      let all : length cells ≡ length rest + 1 = ap length is ∙ length_push rest cell in
      sym (get_or_push rest cell 0 (length rest) refl) ∙ ap (λ cs. get_or cs (length rest) 0) (sym is) ∙ so_far.numbered (length rest) (omega (arith, all))

  -- and its end stands in its place
  pub one-placed : (rest : List ℕ) (results : List (Option ActionResult)) (ended : Option ActionResult) → length rest < count → IfSome ended (IsEndOf ms plan (length rest)) → IsTakenOut ms plan count rest results
      → IsTakenOut ms plan count rest (slice_set results (length rest) ended)
  one-placed rest results ended below is so_far =
      let at = length rest in
      let inside : at < length results = subst (λ (k : ℕ). at < k) (sym so_far.sized) below in
      record {
        numbered = so_far.numbered;
        sized = length-set results at ended ∙ so_far.sized;
        within = so_far.within;
        free = λ n small. get_or-set_other results at n ended None (λ same. absurd (omega (arith, same))) ∙ so_far.free n small;
        own = λ n. dite (ℕ_discrete n at)
            (λ here. own_at (slice_set results at ended) n ended (ap (λ k. get_or (slice_set results at ended) k None) here ∙ get_or-set_same results at ended None inside) (subst (λ (k : ℕ). IfSome ended (λ (e : ActionResult). ended_action e ≡ k)) (sym here) (cell-own ms plan at ended is)))
            (λ other. own_at (slice_set results at ended) n (get_or results n None) (get_or-set_other results at n ended None other) (so_far.own n));
        fits = λ n. dite (ℕ_discrete n at)
            (λ here. fits_at (slice_set results at ended) n ended (ap (λ k. get_or (slice_set results at ended) k None) here ∙ get_or-set_same results at ended None inside)
            (subst (λ (k : ℕ). IsTrueTo ms plan k (result_or_skipped ended)) (sym here) (cell-fits ms plan at ended is)))
            (λ other. fits_at (slice_set results at ended) n (get_or results n None) (get_or-set_other results at n ended None other)
            (subst (IsTrueTo ms plan n) (one_done results n) (so_far.fits n)));
      }
