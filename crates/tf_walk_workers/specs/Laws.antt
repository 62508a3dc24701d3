-- Which results are true, given the results read before an action, and what the true results of all actions are.
use Rattle.std.specs.Prelude.{◌≡◌, ◌<◌, ℕ, Bool, true, false, not, List, length}
use Rattle.tf_graph.specs.Digraph.{predecessors_of}
use Rattle.tf_graph.specs.Solutions.{Ranked, seen_by}
use Rattle.tf_plan_data.specs.Plan.{PlanView}
use Rattle.tf_provider_protocol.specs.Meaning.{Meaning}
use Rattle.tf_walk_action.specs.Excuse.{during_call, excuse_of}
use Rattle.tf_walk_action.specs.Outcome.{ActionResultView, skipped, excused, Requests, AreOutcomes, AreRequests, all_good, call_at, done_at, excuse_in, is_faulted}
use Rattle.tf_walk_action.specs.declared.excuse.Excuse.{Excuse}
use Rattle.tf_walk_workers.specs.Ideal.{IsTrueTo}
use Rattle.tf_walk_workers.specs.SeenResult.{AreShown}

-- Something holds of the result of an action's call, given the results read of the actions before it, which are all
-- good.
abbrev pub OfCall : List Meaning → PlanView → ℕ → List (ℕ × ActionResultView) → (ActionResultView → Type 0) → Type 0
OfCall ms plan n seen Holds = (requests : Requests) → AreRequests plan requests → Holds (call_at ms requests plan n seen)

-- The result of an action's call, given the results read before it, is true.
abbrev pub CallsAreTrue : Type 0
CallsAreTrue =
    (ms : List Meaning) (plan : PlanView) (n : ℕ) (seen : List (ℕ × ActionResultView)) (d : ActionResultView) → n < length plan.actions
    → AreShown ms plan (predecessors_of plan.order n) seen → OfCall ms plan n seen (λ call. d ≡ call) → IsTrueTo ms plan n d

-- An excuse during the call is true of an action too, if its request has no fault.
abbrev pub ExcusesAreTrue : Type 0
ExcusesAreTrue =
    (ms : List Meaning) (plan : PlanView) (n : ℕ) (seen : List (ℕ × ActionResultView)) → n < length plan.actions
    → AreShown ms plan (predecessors_of plan.order n) seen → OfCall ms plan n seen (λ call. is_faulted call ≡ false) → IsTrueTo ms plan n (excused during_call)

abbrev pub is_skipped : ActionResultView → Bool
is_skipped skipped = true
is_skipped _ = false

-- Results of all actions fit together: each is true, and an action is skipped exactly if one directly before it isn't
-- good.
pub record FitTogether (ms : List Meaning) (plan : PlanView) (done : List ActionResultView) : Type 0 where
  pub all : length done ≡ length plan.actions
  pub fits : (n : ℕ) → IsTrueTo ms plan n (done_at done n)
  pub skips : (n : ℕ) → n < length plan.actions → is_skipped (done_at done n) ≡ not (all_good (seen_by (done_at done) (predecessors_of plan.order n)))

-- Results that fit together are the plan's outcomes, with excuses that name exactly the excused actions.
abbrev pub TrueEndsAreOutcomes : Type 0
TrueEndsAreOutcomes =
    (ms : List Meaning) (plan : PlanView) (done : List ActionResultView) → Ranked (predecessors_of plan.order) → FitTogether ms plan done
    → (requests : Requests) → AreRequests plan requests
    → (excuses : List Excuse) → ((n : ℕ) → n < length plan.actions → excuse_of excuses n ≡ excuse_in (done_at done n))
    → AreOutcomes ms requests plan excuses done

-- The request of an action that was excused during its call has no fault.
abbrev pub ExcusedHaveNoFault : Type 0
ExcusedHaveNoFault =
    (ms : List Meaning) (plan : PlanView) (done : List ActionResultView) → Ranked (predecessors_of plan.order) → FitTogether ms plan done
    → (requests : Requests) → AreRequests plan requests
    → (n : ℕ) → n < length plan.actions → done_at done n ≡ excused during_call
    → is_faulted (call_at ms requests plan n (seen_by (done_at done) (predecessors_of plan.order n))) ≡ false
