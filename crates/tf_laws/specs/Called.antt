-- After which actions an action is called.
use Rattle.std.specs.Prelude.{◌≡◌, ℕ, List, Some, slice_get, take}
use Rattle.std.specs.List.{AllByRecursion}
use Rattle.tf_graph.specs.Digraph.{predecessors_of}
use Rattle.tf_walk_action.specs.Journal.{entered_verdict, verdict_in}
use Rattle.tf_walk_action.specs.Outcome.{done_at}
use Rattle.tf_walk_action.specs.declared.excuse.Outcome.TheVariants.{Judged}
use Rattle.tf_plan_data.specs.Plan.{PlanView}
use Rattle.tf_provider_protocol.specs.Meaning.{Meaning}
use Rattle.tf_provider_protocol.specs.declared.verdict.Verdict.{Verdict}
use Rattle.tf_provider_protocol.specs.declared.verdict.Verdict.TheVariants.{Good}
use Rattle.tf_provider.specs.declared.journal.Entry.{Entry}
use Rattle.tf_walk_report.specs.Report.{IsReported, IsWhole}
use Rattle.tf_walk_report.specs.declared.report.Report.{Report}

-- In a report, each action directly before an action is good.
abbrev pub FollowsGood : PlanView → Report → ℕ → Type 0
FollowsGood plan report n = AllByRecursion (λ m. slice_get report.outcomes.items m ≡ Some (Judged Good)) (predecessors_of plan.order n)

-- An action that was called follows good ones, and so does one whose provider had no memory for its call.
abbrev pub CalledAfterGood : Type 0
CalledAfterGood =
    (ms : List Meaning) (plan : PlanView) (report : Report) → (is : IsReported ms plan report)
    → (n : ℕ) (v : Verdict) → entered_verdict (done_at is.done n) ≡ Some v → FollowsGood plan report n

-- An action follows good ones if the report has a verdict on it.
abbrev pub JudgedAfterGood : Type 0
JudgedAfterGood =
    (ms : List Meaning) (plan : PlanView) (report : Report) → IsReported ms plan report
    → (n : ℕ) (v : Verdict) → slice_get report.outcomes.items n ≡ Some (Judged v) → FollowsGood plan report n

-- So does an action that has an entry in the journal of a whole report: each action directly before it has an earlier entry
-- with the verdict good.
abbrev pub EnteredAfterGood : Type 0
EnteredAfterGood =
    (ms : List Meaning) (plan : PlanView) (report : Report) → IsWhole ms plan report
    → (i : ℕ) (e : Entry) → slice_get report.journal.entries i ≡ Some e
    → AllByRecursion (λ m. verdict_in (take i report.journal.entries) m ≡ Some Good) (predecessors_of plan.order e.action)
