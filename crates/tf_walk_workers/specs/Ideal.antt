-- When a result of an action is true, whichever outcomes its plan has if nothing is excused.
use Rattle.std.specs.Prelude.{◌≡◌, ◌<◌, ℕ, true, false, List, [], length, slice_index, ⊤}
use Rattle.tf_graph.specs.Digraph.{predecessors_of}
use Rattle.tf_graph.specs.Solutions.{Solves, seen_by}
use Rattle.tf_plan_data.specs.Plan.{PlanView}
use Rattle.tf_provider_protocol.specs.Meaning.{Meaning}
use Rattle.tf_walk_action.specs.ResultViews.{HasCause, action_result_of, ended_action}
use Rattle.tf_walk_action.specs.declared.action_result.ActionResult.{ActionResult}
use Rattle.tf_walk_action.specs.Excuse.{before_call, during_call, by_stop}
use Rattle.tf_walk_action.specs.Outcome.{ActionResultView, skipped, excused, Requests, AreRequests, all_good, is_faulted, is_good, rule}

-- Ideal outcomes are those of a plan if nothing is excused.
abbrev pub IsIdeal : List Meaning → PlanView → Requests → (ℕ → ActionResultView) → Type 0
IsIdeal ms plan requests ideal = AreRequests plan requests × Solves (length plan.actions) (predecessors_of plan.order) (rule ms requests plan []) ideal

-- something holds of all ideal outcomes
abbrev pub InEachIdeal : List Meaning → PlanView → ((ℕ → ActionResultView) → Type 0) → Type 0
InEachIdeal ms plan Holds = (requests : Requests) (ideal : ℕ → ActionResultView) → IsIdeal ms plan requests ideal → Holds ideal

-- A result of an action agrees with ideal outcomes. A call or a fault is the ideal one. If the action was excused
-- during its call, all actions directly before it are good in the ideal, and its request has no fault there. There is
-- no condition if the action was skipped, excused before its call or left.
abbrev pub AgreesWith : (ℕ → List ℕ) → (ℕ → ActionResultView) → ℕ → ActionResultView → Type 0
AgreesWith before ideal n skipped = ⊤
AgreesWith before ideal n (excused before_call) = ⊤
AgreesWith before ideal n (excused by_stop) = ⊤
AgreesWith before ideal n (excused during_call) = (all_good (seen_by ideal (before n)) ≡ true) × (is_faulted (ideal n) ≡ false)
AgreesWith before ideal n d = d ≡ ideal n

-- a result of an action of a plan is true: it agrees with all ideal outcomes
abbrev pub IsTrueTo : List Meaning → PlanView → ℕ → ActionResultView → Type 0
IsTrueTo ms plan n d = InEachIdeal ms plan (λ ideal. AgreesWith (predecessors_of plan.order) ideal n d)

-- A result is of this action, has its cause directly before the action if it is a skip, and is true of the action.
abbrev pub IsEndOf : List Meaning → PlanView → ℕ → ActionResult → Type 0
IsEndOf ms plan n ended = (ended_action ended ≡ n) × HasCause plan.order ended × IsTrueTo ms plan n (action_result_of ended)

-- an action is good in every ideal
abbrev pub IsGoodInEach : List Meaning → PlanView → ℕ → Type 0
IsGoodInEach ms plan n = InEachIdeal ms plan (λ ideal. is_good (ideal n) ≡ true)

-- each of some cells is numbered by its place
abbrev pub IsNumbered : List ℕ → Type 0
IsNumbered cells = (n : ℕ) → n < length cells → slice_index cells n ≡ n
