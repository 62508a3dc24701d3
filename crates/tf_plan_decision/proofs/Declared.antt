-- What becomes of an instance that the configuration has, by what is planned for it.
use Rattle.std.proofs.Common.{◌≡◌, List, Result, Ok, Err, ap, ◌∙◌}
use Rattle.tf_plan_data.specs.Action.{StepView}
use Rattle.tf_plan_object.specs.Instance.{InstanceFaultView}
use Rattle.tf_config_data.specs.Config.{LifecycleView}
use Rattle.tf_plan_decision.specs.Outcome.{OutcomeView, by_decision}
use Rattle.tf_plan_decision.specs.Steps.{decided_steps}
use Rattle.tf_plan_decision.specs.Decision.{DecisionView, DecisionFaultView, decision}
use Rattle.tf_provider_protocol.specs.Schema.{SchemaView}
use Rattle.tf_state_data.specs.Record.{RecordView}
use Rattle.tf_value_data.specs.Tree.{Tree}

module _ (schema : SchemaView) (lifecycle : LifecycleView) (records : List RecordView) (planned object : Result Tree InstanceFaultView) (same : planned ≡ object) where
  pub steps_done : (d : DecisionView) (steps : List StepView) → steps ≡ decided_steps records d → Ok d ≡ decision schema lifecycle records planned
      → ◌≡◌ {A = OutcomeView} (Ok steps) (by_decision records (decision schema lifecycle records object))
  steps_done d steps e is = ap Ok e ∙ ap (by_decision records) (is ∙ ap (decision schema lifecycle records) same)

  pub refusal_told : (why : DecisionFaultView) → Err why ≡ decision schema lifecycle records planned → ◌≡◌ {A = OutcomeView} (Err why) (by_decision records (decision schema lifecycle records object))
  refusal_told why is = ap (by_decision records) (is ∙ ap (decision schema lifecycle records) same)
