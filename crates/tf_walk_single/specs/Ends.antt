-- How one action ends, whatever is excused later.
use Rattle.std.specs.Prelude.{◌≡◌, ℕ, ◌<◌, true, List, [], ◌∷◌, ◌++◌, length, Option, Some, None, is_some, unwrap_or, slice_index_or, MatchBool, MatchOption, option_and_then}
use Rattle.std.specs.List.{AllByRecursion, list_all}
use Rattle.tf_claim.specs.Ledger.{stage_in}
use Rattle.tf_claim.specs.declared.book.Stage.{Stage}
use Rattle.tf_claim.specs.declared.book.Stage.TheVariants as stage
use Rattle.tf_graph.specs.Digraph.{predecessors_of}
use Rattle.tf_graph.specs.Solutions.{seen_by}
use Rattle.tf_provider.specs.declared.journal.Entry.{Entry}
use Rattle.tf_plan_data.specs.Plan.{PlanView}
use Rattle.tf_provider_protocol.specs.declared.request.Op.{Op}
use Rattle.tf_provider_protocol.specs.Meaning.{Meaning}
use Rattle.tf_walk_action.specs.Journal.{IsOfAction, verdict_in, entered_verdict}
use Rattle.tf_walk_action.specs.Outcome.{ActionResultView, skipped, Requests, AreRequests, all_good, call_at}
use Rattle.tf_walk_action.specs.Run.{IsRun}

-- An action is skipped if one directly before it isn't good. Otherwise it is called, faulted or excused.
abbrev pub IsEnd : List Meaning → Requests → PlanView → ℕ → List (ℕ × ActionResultView) → ActionResultView → Type 0
IsEnd ms requests plan n seen d = MatchBool (all_good seen) (IsRun (call_at ms requests plan n seen) d) (d ≡ skipped)

-- the result of an action, if it has ended so far
abbrev pub end_at : List (Option ActionResultView) → ℕ → Option ActionResultView
end_at ends n = slice_index_or ends n None

-- the result of an action; one that hasn't ended counts as skipped
abbrev pub done_in : List (Option ActionResultView) → ℕ → ActionResultView
done_in ends n = unwrap_or (end_at ends n) skipped

-- the stage of an action in a book
abbrev pub stage_of : Option ActionResultView → Stage
stage_of None = stage.Free
stage_of (Some d) = stage.Done

-- an action that has ended is done in a book, and the others are free
abbrev pub IsStaged : List Stage → List (Option ActionResultView) → Type 0
IsStaged stages ends = (n : ℕ) → stage_in stages n ≡ stage_of (end_at ends n)

-- What a walk has done so far: each action that has ended did so by the rule, after all actions directly before it, and
-- the journal has the calls that were made.
pub record IsSoFar (ms : List Meaning) (plan : PlanView) (ends : List (Option ActionResultView)) (entries : List Entry) : Type 0 where
  pub sized : length ends ≡ length plan.actions
  pub closed : (n : ℕ) → is_some (end_at ends n) ≡ true → list_all (λ m. is_some (end_at ends m)) (predecessors_of plan.order n) ≡ true
  pub ended : (requests : Requests) → AreRequests plan requests → (n : ℕ) (d : ActionResultView) → end_at ends n ≡ Some d → IsEnd ms requests plan n (seen_by (done_in ends) (predecessors_of plan.order n)) d
  pub entered : (n : ℕ) → verdict_in entries n ≡ option_and_then entered_verdict (end_at ends n)
  pub ops : AllByRecursion (IsOfAction plan.actions) entries

-- an action's entry, with its operation, is added to a journal if its result calls for one
abbrev pub Enters : ℕ → Option Op → ActionResultView → List Entry → List Entry → Type 0
Enters n op d old new = MatchOption (entered_verdict d) (new ≡ old) (λ v. (e : Entry) × (e.action ≡ n) × (Some e.op ≡ op) × (e.verdict ≡ v) × (new ≡ old ++ e ∷ []))

-- each action has ended
abbrev pub AllHaveEnded : PlanView → List (Option ActionResultView) → Type 0
AllHaveEnded plan ends = (n : ℕ) → n < length plan.actions → is_some (end_at ends n) ≡ true
