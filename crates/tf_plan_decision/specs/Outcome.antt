-- The outcomes of a resource's members in the plan.
use Rattle.std.specs.Prelude.{if◌then◌else◌, List, Option, Some, None, Result, Ok, Err}
use Rattle.tf_plan_data.specs.Action.{StepView}
use Rattle.tf_plan_object.specs.Instance.{instance_object}
use Rattle.tf_config_data.specs.Config.{BlockView, LifecycleView}
use Rattle.tf_plan_decision.specs.Decision.{DecisionView, DecisionFaultView, decision, no_provider, removal_fault}
use Rattle.tf_plan_decision.specs.Steps.{decided_steps, removal_steps}
use Rattle.tf_expr_eval.specs.Environment.{Environment}
use Rattle.tf_plan_order.specs.Members.{InstanceToPlanView}
use Rattle.tf_provider_protocol.specs.Schema.{SchemaView}
use Rattle.tf_state_data.specs.Record.{RecordView}

-- the steps of an instance, or why it is refused
abbrev pub OutcomeView : Type 0
OutcomeView = Result (List StepView) DecisionFaultView

abbrev pub by_decision : List RecordView → Result DecisionView DecisionFaultView → OutcomeView
by_decision records (Ok d) = Ok (decided_steps records d)
by_decision records (Err why) = Err why

-- The outcome of an instance that the configuration has follows from the decision by its records.
abbrev pub declared_outcome : SchemaView → BlockView → Environment → InstanceToPlanView → OutcomeView
declared_outcome schema block env m = by_decision m.records (decision schema block.lifecycle m.records (instance_object schema block m.key env))

abbrev pub by_removal : List RecordView → Option DecisionFaultView → OutcomeView
by_removal records None = Ok (removal_steps records)
by_removal records (Some why) = Err why

-- An instance that the configuration doesn't have is destroyed with all its objects, unless that is refused.
abbrev pub removal_outcome : SchemaView → Option LifecycleView → InstanceToPlanView → OutcomeView
removal_outcome schema lifecycle m = by_removal m.records (removal_fault schema lifecycle m.records)

-- The outcome of a member of a configured resource, by the schema of its type. It is refused if there is no schema.
abbrev pub member_outcome : Option SchemaView → BlockView → Environment → InstanceToPlanView → OutcomeView
member_outcome None block env m = Err no_provider
member_outcome (Some schema) block env m = if m.is_declared then declared_outcome schema block env m else removal_outcome schema (Some block.lifecycle) m

-- The outcome of a member of an orphan.
abbrev pub orphan_outcome : Option SchemaView → InstanceToPlanView → OutcomeView
orphan_outcome None m = Err no_provider
orphan_outcome (Some schema) m = removal_outcome schema None m
