-- What a journal says of a plan that was carried out.
use Rattle.std.specs.Prelude.{◌≡◌, ℕ, List, find, ◌==◌, Option, Some, None, option_map, slice_get}
use Rattle.std.specs.List.{AllByRecursion}
use Rattle.tf_plan_data.specs.Action.{ActionView}
use Rattle.tf_graph.specs.Digraph.{predecessors_of}
use Rattle.tf_graph.specs.Order.{IsInOrder}
use Rattle.tf_provider.specs.declared.journal.Entry.{Entry}
use Rattle.tf_provider.specs.Entries.{actions_of}
use Rattle.tf_plan_data.specs.Plan.{PlanView}
use Rattle.tf_provider_protocol.specs.declared.request.Op.{Op}
use Rattle.tf_provider_protocol.specs.declared.verdict.Verdict.{Verdict}
use Rattle.tf_provider_protocol.specs.declared.verdict.Verdict.TheVariants as verdict
use Rattle.tf_walk_action.specs.Asked.{op_of}
use Rattle.tf_walk_action.specs.ActionResult.{ActionResultView, excused, called}
use Rattle.tf_walk_action.specs.Excuse.{during_call}
use Rattle.tf_walk_action.specs.Outcome.{done_at}

-- the verdict of an action's entry
abbrev pub verdict_in : List Entry → ℕ → Option Verdict
verdict_in entries n = option_map (λ e. e.verdict) (find (λ e. e.action == n) entries)

-- A called action has an entry with its verdict. So has an action whose provider had no memory.
abbrev pub entered_verdict : ActionResultView → Option Verdict
entered_verdict (called asked answer v) = Some v
entered_verdict (excused during_call) = Some verdict.Excused
entered_verdict _ = None

-- the operation of the action at a place of the list
abbrev pub op_at : List ActionView → ℕ → Option Op
op_at actions n = option_map (λ a. op_of a.step) (slice_get actions n)

-- an entry has the operation of its action
abbrev pub IsOfAction : List ActionView → Entry → Type 0
IsOfAction actions e = op_at actions e.action ≡ Some e.op

-- A journal holds exactly the actions whose providers were called, each once with its verdict and its operation. No
-- entry is before that of an action that it depends on.
pub record IsJournal (plan : PlanView) (done : List ActionResultView) (entries : List Entry) : Type 0 where
  pub in_order : IsInOrder (predecessors_of plan.order) (actions_of entries)
  pub verdicts : (n : ℕ) → verdict_in entries n ≡ entered_verdict (done_at done n)
  pub ops : AllByRecursion (IsOfAction plan.actions) entries
