-- What the excuses of a report name.
use Rattle.std.specs.Prelude.{◌≡◌, ◌↔◌, ℕ, zero, suc, Bool, true, List, Option, Some, None, slice_get, Contains}
use Rattle.std.specs.List.{AllByRecursion}
use Rattle.tf_walk_action.specs.Excuse.{before_call, during_call, by_stop}
use Rattle.tf_walk_action.specs.Outcome.{ActionResultView, excused}
use Rattle.tf_walk_action.specs.declared.excuse.Excuse.{Excuse}
use Rattle.tf_walk_action.specs.declared.excuse.Excuse.TheVariants.{Before, During, Left, Output}
use Rattle.tf_walk_action.specs.declared.excuse.Outcome.TheVariants as outcome
use Rattle.tf_walk_outputs.specs.Outputs as outputs
use Rattle.tf_walk_outputs.specs.Settled.{AreSettled, names_are_settled}
use Rattle.tf_plan_data.specs.Plan.{PlanView, plan_names}
use Rattle.tf_provider_protocol.specs.Meaning.{Meaning}
use Rattle.tf_walk_report.specs.Good.{are_good_at}
use Rattle.tf_walk_report.specs.Report.{IsReported}
use Rattle.tf_walk_report.specs.declared.report.Report.{Report}
use Rattle.tf_expr_syntax.specs.ExprTree as expr

-- what an excuse names: an action, or an output
pub data Subject : Type 0 where
  an_action : ℕ → Subject
  an_output : ℕ → Subject

abbrev pub subject_of : Excuse → Subject
subject_of (Before n) = an_action n
subject_of (During n) = an_action n
subject_of (Left n) = an_action n
subject_of (Output n) = an_output n

-- the expression of the output at a place, by name
abbrev pub expression_at : expr.Entries → ℕ → Option expr.Tree
expression_at expr.no_entries n = None
expression_at (expr.entry name e es) zero = Some e
expression_at (expr.entry name e es) (suc n) = expression_at es n

-- The output at a place is to be evaluated after these results of the actions: each name in its expression is settled.
pub record IsToBeEvaluated (plan : PlanView) (done : List ActionResultView) (n : ℕ) : Type 0 where
  pub settled : ℕ → Bool
  pub are_settled : AreSettled (plan_names plan) (are_good_at plan.actions done) settled
  pub expression : expr.Tree
  pub stands : expression_at plan.config.outputs n ≡ Some expression
  pub all_settled : names_are_settled (plan_names plan) settled expression ≡ true

-- An excuse is due. The action that it names was excused at the moment that the excuse gives; or the output that it names is to
-- be evaluated, and ran out of memory.
abbrev pub IsDue : PlanView → List ActionResultView → List outputs.OutputResultView → Excuse → Type 0
IsDue plan done ended (Before n) = slice_get done n ≡ Some (excused before_call)
IsDue plan done ended (During n) = slice_get done n ≡ Some (excused during_call)
IsDue plan done ended (Left n) = slice_get done n ≡ Some (excused by_stop)
IsDue plan done ended (Output n) = (slice_get ended n ≡ Some outputs.excused) × IsToBeEvaluated plan done n

-- Each excuse of a report is due.
abbrev pub ExcusesAreDue : Type 0
ExcusesAreDue = (ms : List Meaning) (plan : PlanView) (report : Report) → (is : IsReported ms plan report) → AllByRecursion (IsDue plan is.done is.outputs) report.excused.items

-- No two excuses of a report name the same action or output.
abbrev pub NamedOnce : Type 0
NamedOnce =
    (ms : List Meaning) (plan : PlanView) (report : Report) → IsReported ms plan report
    → (i j : ℕ) (e f : Excuse) → slice_get report.excused.items i ≡ Some e → slice_get report.excused.items j ≡ Some f → subject_of e ≡ subject_of f → i ≡ j

-- An action's outcome is `Excused` exactly if an excuse names it.
abbrev pub ExcusedAreNamed : Type 0
ExcusedAreNamed =
    (ms : List Meaning) (plan : PlanView) (report : Report) → IsReported ms plan report
    → (n : ℕ) → (slice_get report.outcomes.items n ≡ Some outcome.Excused) ↔ ((e : Excuse) × Contains report.excused.items e × (subject_of e ≡ an_action n))
