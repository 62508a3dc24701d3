-- That the plan, the providers and the excuses determine a report.
use Rattle.std.specs.Prelude.{◌≡◌, List, map}
use Rattle.tf_walk_report.specs.Diagnostics.{diagnostic_of}
use Rattle.tf_plan_data.specs.Plan.{PlanView}
use Rattle.tf_provider_protocol.specs.Meaning.{Meaning}
use Rattle.tf_walk_report.specs.Report.{IsReported}
use Rattle.tf_walk_report.specs.declared.report.Report.{Report}
use Rattle.tf_state_data.specs.State.{state_of}
use Rattle.tf_laws.specs.Founded.{IsFounded}

-- two reports have the same outcomes, state, diagnostics and numbers of good actions
pub record TellTheSame (report other : Report) : Type 0 where
  pub outcomes : report.outcomes.items ≡ other.outcomes.items
  pub state : state_of report.state ≡ state_of other.state
  pub diagnostics : map diagnostic_of report.diagnostics.items ≡ map diagnostic_of other.diagnostics.items
  pub good : report.good ≡ other.good

-- If two reports on a plan have the same excuses, each action has the same outcome, request, answer and verdict in both, and
-- each output the same result. The two reports have the same contents.
abbrev pub ReportsAreOne : Type 0
ReportsAreOne =
    (ms : List Meaning) (plan : PlanView) (report other : Report)
    → IsFounded plan → (one : IsReported ms plan report) → (two : IsReported ms plan other) → report.excused.items ≡ other.excused.items
    → (one.done ≡ two.done) × (one.outputs ≡ two.outputs) × TellTheSame report other
