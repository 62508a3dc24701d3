-- The excuses of a report are due.
use Rattle.std.proofs.Common.{◌≡◌, ◌∙◌, ◌+◌, ℕ, suc, Bool, true, false, List, [], ◌∷◌, map, Option, Some, MatchBool, refl, sym, ap, subst, arith}
use Rattle.std.specs.List.{AllByRecursion}
use Rattle.std.specs.Prelude.{slice_get}
use Rattle.tf_walk_action.specs.Excuse.{before_call, during_call, by_stop}
use Rattle.tf_walk_action.specs.Outcome.{ActionResultView, skipped, excused, faulted, called}
use Rattle.tf_walk_outputs.specs.Outputs as outputs
use Rattle.tf_walk_outputs.specs.Settled.{AreSettled, names_are_settled}
use Rattle.tf_plan_data.specs.Plan.{PlanView, plan_names}
use Rattle.tf_walk_report.specs.Good.{are_good_at}
use Rattle.tf_walk_report.specs.Outcomes.{excuses_at, excuses_from}
use Rattle.tf_walk_report.specs.OutputsTold.{output_excuses, output_excuses_at}
use Rattle.tf_walk_report.specs.Report.{objects_after}
use Rattle.tf_expr_syntax.specs.ExprTree as expr
use Rattle.tf_laws.proofs.ListsOfEntries.{all_appended}
use Rattle.tf_laws.specs.Excuses.{ExcusesAreDue, IsDue, expression_at}

-- what is k places behind the place of the first
after_one : {A : Type 0} (first : ℕ) (P : ℕ → Option A) (xs : List A) (x : A) → ((k : ℕ) → P (first + k) ≡ slice_get (x ∷ xs) k) → (k : ℕ) → P (first + 1 + k) ≡ slice_get xs k
after_one first P xs x at k = let next : first + 1 + k ≡ first + suc k = omega arith in ap P next ∙ at (suc k)

here : {A : Type 0} (first : ℕ) (P : ℕ → Option A) (xs : List A) (x : A) → ((k : ℕ) → P (first + k) ≡ slice_get (x ∷ xs) k) → P first ≡ Some x
here first P xs x at = let start : first ≡ first + 0 = omega arith in ap P start ∙ at 0

module _ (plan : PlanView) (done : List ActionResultView) (ended : List outputs.OutputResultView) where
  -- ---- actions

  due_at : (n : ℕ) (d : ActionResultView) → slice_get done n ≡ Some d → AllByRecursion (IsDue plan done ended) (excuses_at n d)
  due_at n skipped e = tt
  due_at n (excused before_call) e = (e, tt)
  due_at n (excused during_call) e = (e, tt)
  due_at n (excused by_stop) e = (e, tt)
  due_at n (faulted why) e = tt
  due_at n (called asked answer v) e = tt

  due_from : (first : ℕ) (ds : List ActionResultView) → ((k : ℕ) → slice_get done (first + k) ≡ slice_get ds k) → AllByRecursion (IsDue plan done ended) (excuses_from first ds)
  due_from first [] at = tt
  due_from first (d ∷ ds) at =
      all_appended (IsDue plan done ended) (excuses_at first d) (excuses_from (first + 1) ds) (due_at first d (here first (slice_get done) ds d at))
      (due_from (first + 1) ds (after_one first (slice_get done) ds d at))

  -- ---- outputs

  module _ (settled : ℕ → Bool) (are : AreSettled (plan_names plan) (are_good_at plan.actions done) settled) where
    -- an output that is excused is to be evaluated anew
    by_test : (b : Bool) (e : expr.Tree) → MatchBool b (outputs.IsEvaluated plan.variables (plan_names plan) plan.shapes (objects_after plan done) e outputs.excused) (outputs.excused ≡ outputs.not_evaluated) → b ≡ true
    by_test true e h = refl
    by_test false e h = absurd (cc)

    output_due_at : (n : ℕ) (e : expr.Tree) (d : outputs.OutputResultView) → slice_get ended n ≡ Some d → expression_at plan.config.outputs n ≡ Some e
        → outputs.IsOutputDone plan.variables (plan_names plan) plan.shapes (objects_after plan done) settled e d
        → AllByRecursion (IsDue plan done ended) (output_excuses_at n (outputs.end_of d))
    output_due_at n e outputs.not_evaluated at stands h = tt
    output_due_at n e outputs.excused at stands h =
        ((at, record { settled = settled; are_settled = are; expression = e; stands = stands; all_settled = by_test (names_are_settled (plan_names plan) settled e) e h }), tt)
    output_due_at n e (outputs.valued t) at stands h = tt
    output_due_at n e (outputs.faulted why) at stands h = tt

    outputs_due : (first : ℕ) (es : expr.Entries) (ds : List outputs.OutputResultView) → ((k : ℕ) → slice_get ended (first + k) ≡ slice_get ds k) → ((k : ℕ) → expression_at plan.config.outputs (first + k) ≡ expression_at es k)
        → outputs.AreOutputsDone plan.variables (plan_names plan) plan.shapes (objects_after plan done) settled es ds
        → AllByRecursion (IsDue plan done ended) (output_excuses first (map outputs.end_of ds))
    outputs_due first expr.no_entries [] at stands h = tt
    outputs_due first expr.no_entries (d ∷ ds) at stands h = absurd h
    outputs_due first (expr.entry name e es) [] at stands h = absurd h
    outputs_due first (expr.entry name e es) (d ∷ ds) at stands h =
        let start : first ≡ first + 0 = omega arith in
        all_appended (IsDue plan done ended) (output_excuses_at first (outputs.end_of d)) (output_excuses (first + 1) (map outputs.end_of ds))
        (output_due_at first e d (here first (slice_get ended) ds d at) (ap (expression_at plan.config.outputs) start ∙ stands 0) h.0)
        (outputs_due (first + 1) es ds (after_one first (slice_get ended) ds d at)
        (λ k. let next : first + 1 + k ≡ first + suc k = omega arith in ap (expression_at plan.config.outputs) next ∙ stands (suc k)) h.1)

pub excuses_due : ExcusesAreDue
excuses_due ms plan report is =
    let told = is.is_report.told in
    let of_outputs = told.outputs_done in
    subst (AllByRecursion (IsDue plan is.done is.outputs)) (sym told.lawful)
    (all_appended (IsDue plan is.done is.outputs) (excuses_from 0 is.done) (output_excuses 0 (map outputs.end_of is.outputs))
    (due_from plan is.done is.outputs 0 is.done (λ k. let same : 0 + k ≡ k = omega arith in ap (slice_get is.done) same))
    (outputs_due plan is.done is.outputs of_outputs.0 of_outputs.1 0 plan.config.outputs is.outputs (λ k. let same : 0 + k ≡ k = omega arith in ap (slice_get is.outputs) same)
    (λ k. let same : 0 + k ≡ k = omega arith in ap (expression_at plan.config.outputs) same) of_outputs.2))
