-- True ends of all actions are a plan's outcomes.
use Rattle.std.proofs.Common.{◌≡◌, ◌<◌, ◌∙◌, ◌∷◌, [], ℕ, Bool, true, false, not, List, length, Option, if◌then◌else◌, refl, sym, ap, ap₂, subst}
use Rattle.tf_graph.proofs.Solving.{solution-exists}
use Rattle.tf_graph.specs.Digraph.{predecessors_of}
use Rattle.tf_graph.specs.Solutions.{Ranked, seen_by}
use Rattle.tf_walk_action.specs.Excuse.{Moment, during_call, excuse_of}
use Rattle.tf_walk_action.specs.Outcome.{ActionResultView, skipped, excused, faulted, called, Requests, AreRequests, is_good, all_good, call_at, done_at, excuse_in, is_faulted, or_excused, rule}
use Rattle.tf_walk_action.specs.declared.excuse.Excuse.{Excuse}
use Rattle.tf_plan_data.specs.Plan.{PlanView}
use Rattle.tf_provider_protocol.specs.Meaning.{Meaning}
use Rattle.tf_value_data.proofs.Conjunction.{and-first, and-second}
use Rattle.tf_walk_workers.proofs.CallsSeen.{rule-calls}
use Rattle.tf_walk_workers.proofs.TrueEnds.{good-is}
use Rattle.tf_walk_workers.specs.Ideal.{IsIdeal, AgreesWith}
use Rattle.tf_walk_workers.specs.Laws.{is_skipped, FitTogether, TrueEndsAreOutcomes, ExcusedHaveNoFault}

-- where all that is seen is good, and good results are the ideal ones, the ideal is seen
good-seen : (results ideal : ℕ → ActionResultView) (nodes : List ℕ) → ((a : ℕ) → is_good (results a) ≡ true → results a ≡ ideal a) → all_good (seen_by results nodes) ≡ true → seen_by results nodes ≡ seen_by ideal nodes
good-seen results ideal [] same good = refl
good-seen results ideal (a ∷ nodes) same good =
    ap₂ (λ (d : ActionResultView) (seen : List (ℕ × ActionResultView)). (a, d) ∷ seen)
    (same a (and-first (is_good (results a)) (all_good (seen_by results nodes)) good))
    (good-seen results ideal nodes same (and-second (is_good (results a)) (all_good (seen_by results nodes)) good))

-- an end that agrees with the ideal is what comes of the call, or is excused
run-is : (before : ℕ → List ℕ) (ideal : ℕ → ActionResultView) (n : ℕ) (call d : ActionResultView) → is_skipped d ≡ false → AgreesWith before ideal n d → ideal n ≡ call → d ≡ or_excused (excuse_in d) call
run-is before ideal n call skipped isnt agrees is = absurd (cc)
run-is before ideal n call (excused m) isnt agrees is = refl
run-is before ideal n call (faulted why) isnt agrees is = agrees ∙ is
run-is before ideal n call (called asked answer v) isnt agrees is = agrees ∙ is

-- a skipped end is skipped
skip-is : (d : ActionResultView) → is_skipped d ≡ true → d ≡ skipped
skip-is skipped is = refl
skip-is (excused m) is = absurd (cc)
skip-is (faulted why) is = absurd (cc)
skip-is (called asked answer v) is = absurd (cc)

module _ (ms : List Meaning) (plan : PlanView) (done : List ActionResultView) (ranked : Ranked (predecessors_of plan.order)) (fit : FitTogether ms plan done) (requests : Requests) (are : AreRequests plan requests) where
  -- some ideal
  some : (ideal : ℕ → ActionResultView) × IsIdeal ms plan requests ideal
  some =
      let found = solution-exists (length plan.actions) (predecessors_of plan.order) (rule ms requests plan []) ranked in
      (found.0, (are, found.1))

  -- where all before an action are good, its ideal outcome is that of the call, by what came of them
  some-calls : (n : ℕ) → n < length plan.actions → all_good (seen_by (done_at done) (predecessors_of plan.order n)) ≡ true
      → some.0 n ≡ call_at ms requests plan n (seen_by (done_at done) (predecessors_of plan.order n))
  some-calls n below good =
      let seen = seen_by (done_at done) (predecessors_of plan.order n) in
      let same : seen ≡ seen_by some.0 (predecessors_of plan.order n) =
      good-seen (done_at done) some.0 (predecessors_of plan.order n) (λ a fine. good-is ms plan a (done_at done a) (fit.fits a) fine requests some.0 some.1) good in
      some.1.1 n below ∙ ap (rule ms requests plan [] n) (sym same) ∙ rule-calls ms requests plan n seen good

  -- each end is what the rule makes
  ruled : (excuses : List Excuse) → ((n : ℕ) → n < length plan.actions → excuse_of excuses n ≡ excuse_in (done_at done n))
      → (n : ℕ) → n < length plan.actions → (good : Bool) → all_good (seen_by (done_at done) (predecessors_of plan.order n)) ≡ good
      → done_at done n ≡ (if good then or_excused (excuse_of excuses n) (call_at ms requests plan n (seen_by (done_at done) (predecessors_of plan.order n))) else skipped)
  ruled excuses named n below true good =
      let call = call_at ms requests plan n (seen_by (done_at done) (predecessors_of plan.order n)) in
      let isnt : is_skipped (done_at done n) ≡ false = fit.skips n below ∙ ap not good in
      run-is (predecessors_of plan.order) some.0 n call (done_at done n) isnt (fit.fits n requests some.0 some.1) (some-calls n below good)
      ∙ ap (λ (m : Option Moment). or_excused m call) (sym (named n below))
  ruled excuses named n below false bad = skip-is (done_at done n) (fit.skips n below ∙ ap not bad)

  -- an action that was excused during its call isn't skipped
  during-good : (n : ℕ) → n < length plan.actions → done_at done n ≡ excused during_call → (good : Bool) → all_good (seen_by (done_at done) (predecessors_of plan.order n)) ≡ good → good ≡ true
  during-good n below is true good = refl
  during-good n below is false bad = sym (ap is_skipped is) ∙ fit.skips n below ∙ ap not bad

pub true_outcomes : TrueEndsAreOutcomes
true_outcomes ms plan done ranked fit requests are excuses named =
    record {
      all = fit.all;
      solves = λ n below. ruled ms plan done ranked fit requests are excuses named n below (all_good (seen_by (done_at done) (predecessors_of plan.order n))) refl;
    }

pub excused_faultless : ExcusedHaveNoFault
excused_faultless ms plan done ranked fit requests are n below is =
    let good = during-good ms plan done ranked fit requests are n below is (all_good (seen_by (done_at done) (predecessors_of plan.order n))) refl in
    let agrees = subst (AgreesWith (predecessors_of plan.order) (some ms plan done ranked fit requests are).0 n) is (fit.fits n requests (some ms plan done ranked fit requests are).0 (some ms plan done ranked fit requests are).1) in
    ap is_faulted (sym (some-calls ms plan done ranked fit requests are n below good)) ∙ agrees.1
