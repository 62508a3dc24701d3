-- That a plan's instances of each resource are those that its `count` or `for_each` gives, at each stage.
use Rattle.std.specs.Prelude.{◌≡◌, ℕ, true, List, Some, Ok, Contains}
use Rattle.tf_plan_data.specs.Action.{ActionView}
use Rattle.tf_config_address.specs.ObjectId.{InstanceKeyView}
use Rattle.tf_config_data.specs.Config.{BlockView, ConfigView, for_each}
use Rattle.tf_config_data.specs.Names.{a_block, meant_at}
use Rattle.tf_plan_decision.specs.Stage.{deciding}
use Rattle.tf_expand_keys.specs.Repetition.{instances}
use Rattle.tf_expand_keys.specs.InstanceKeys.{InstanceKeysView}
use Rattle.tf_expand_keys.specs.Stages.{applying, expansion}
use Rattle.tf_expand_keys.specs.Resolved.{ResolvedView, AreResolvedNames, environment}
use Rattle.tf_walk_action.specs.Asked.{AreRequests, Requests, asked_for}
use Rattle.tf_plan_data.specs.Fits.{is_apply}
use Rattle.tf_plan_data.specs.Plan.{PlanView, plan_names}
use Rattle.tf_provider_protocol.specs.Meaning.{Asked, Meaning}
use Rattle.tf_provider_protocol.specs.Schema.{SchemaView}
use Rattle.tf_state_data.specs.State.{StateView}
use Rattle.tf_expr_syntax.specs.ExprTree as expr
use Rattle.tf_value_data.specs.Tree.{Tree, Entries}
use Rattle.tf_laws.specs.Requests.{IsSoundPlan}

-- The instances of each resource of a plan are those of the expansion.
abbrev pub InstancesAreExpanded : Type 0
InstancesAreExpanded =
    (ms : List Meaning) (config : ConfigView) (variables : Entries) (prior : StateView) (plan : PlanView) (resolved_names : ℕ → ResolvedView)
    → IsSoundPlan ms config variables prior plan → AreResolvedNames expansion plan.variables (plan_names plan) resolved_names
    → (n : ℕ) (block : BlockView) → meant_at (plan_names plan) n ≡ Some (a_block block)
    → instances block.repetition (environment plan.variables (plan_names plan) resolved_names) ≡ Ok (plan.shapes n)

-- if `count` or `for_each` of a resource gives instances, they are those that a plan has
abbrev pub HavePlannedInstances : PlanView → (ℕ → ResolvedView) → Type 0
HavePlannedInstances plan resolved_names =
    (n : ℕ) (block : BlockView) (shape : InstanceKeysView) → meant_at (plan_names plan) n ≡ Some (a_block block)
    → instances block.repetition (environment plan.variables (plan_names plan) resolved_names) ≡ Ok shape → shape ≡ plan.shapes n

-- A plan's instances stay the same in the plan itself, if names have their planned values.
abbrev pub InstancesStayInPlans : Type 0
InstancesStayInPlans =
    (ms : List Meaning) (config : ConfigView) (variables : Entries) (prior : StateView) (plan : PlanView) (resolved_names : ℕ → ResolvedView)
    → IsSoundPlan ms config variables prior plan → AreResolvedNames (deciding ms plan.prior.resources plan.shapes) plan.variables (plan_names plan) resolved_names
    → HavePlannedInstances plan resolved_names

-- They also stay in an apply, whatever objects instances have.
abbrev pub InstancesStayInApplies : Type 0
InstancesStayInApplies =
    (ms : List Meaning) (config : ConfigView) (variables : Entries) (prior : StateView) (plan : PlanView) (objects : ℕ → InstanceKeyView → Tree) (resolved_names : ℕ → ResolvedView)
    → IsSoundPlan ms config variables prior plan → AreResolvedNames (applying plan.shapes objects) plan.variables (plan_names plan) resolved_names
    → HavePlannedInstances plan resolved_names

-- the `for_each` of a resource gives the instances that a plan has
abbrev pub HasPlannedKeys : PlanView → (ℕ → ResolvedView) → ℕ → Type 0
HasPlannedKeys plan resolved_names n =
    (block : BlockView) (e : expr.Tree) → meant_at (plan_names plan) n ≡ Some (a_block block) → block.repetition ≡ for_each e
    → instances (for_each e) (environment plan.variables (plan_names plan) resolved_names) ≡ Ok (plan.shapes n)

-- If an instance is created or updated, `for_each` gives exactly the plan's keys in the plan, if names have their planned
-- values.
abbrev pub KeysStayInPlans : Type 0
KeysStayInPlans =
    (ms : List Meaning) (config : ConfigView) (variables : Entries) (prior : StateView) (plan : PlanView) (resolved_names : ℕ → ResolvedView) (a : ActionView)
    → IsSoundPlan ms config variables prior plan → AreResolvedNames (deciding ms plan.prior.resources plan.shapes) plan.variables (plan_names plan) resolved_names
    → Contains plan.actions a → is_apply a.step ≡ true → HasPlannedKeys plan resolved_names a.resource

-- It also does in an apply, if the request can be built, whatever objects instances have.
abbrev pub KeysStayInRequests : Type 0
KeysStayInRequests =
    (ms : List Meaning) (config : ConfigView) (variables : Entries) (prior : StateView) (plan : PlanView) (requests : Requests) (objects : ℕ → InstanceKeyView → Tree) (resolved_names : ℕ → ResolvedView)
    (a : ActionView) (schema : SchemaView) (asked : Asked)
    → IsSoundPlan ms config variables prior plan → AreRequests plan requests → AreResolvedNames (applying plan.shapes objects) plan.variables (plan_names plan) resolved_names
    → Contains plan.actions a → is_apply a.step ≡ true → asked_for (plan_names plan) schema a (requests objects a schema) ≡ Ok asked
    → HasPlannedKeys plan resolved_names a.resource
