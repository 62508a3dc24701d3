-- Laws of requests, by what was planned.
use Rattle.std.specs.Prelude.{◌≡◌, ℕ, true, List, Option, Some, None, option_and_then, Result, Ok, Contains, ⊤}
use Rattle.tf_plan_data.specs.Action.{ActionView, StepView, create, update, replacement}
use Rattle.tf_config_address.specs.ObjectId.{InstanceKeyView}
use Rattle.tf_plan_object.specs.Instance.{InstanceFaultView, instance_object}
use Rattle.tf_config_data.specs.Config.{BlockView}
use Rattle.tf_config_data.specs.Names.{a_block, directly_before, meant_at}
use Rattle.tf_plan_decision.specs.Stage.{decided_object, deciding}
use Rattle.tf_plan_decision.specs.Steps.{decided_steps}
use Rattle.tf_plan_decision.specs.Decision.{DecisionView, decision}
use Rattle.tf_expand_keys.specs.StandingLaws.{AreAnswered}
use Rattle.tf_expand_keys.specs.Resolved.{ResolvedView, AreResolvedNames, environment}
use Rattle.tf_graph.specs.Solutions.{Ranked}
use Rattle.tf_plan_data.specs.Plan.{PlanView, plan_names}
use Rattle.tf_provider_protocol.specs.Meaning.{Asked, Meaning}
use Rattle.tf_provider_protocol.specs.Schema.{SchemaView}
use Rattle.tf_state_data.specs.Record.{RecordView}
use Rattle.tf_value_data.specs.Known.{known}
use Rattle.tf_value_data.specs.Refinement.{Refines}
use Rattle.tf_value_data.specs.Tree.{Tree, part_at}
use Rattle.tf_walk_action.specs.Asked.{AreRequests, Requests, asked_for}

-- No name needs itself, names have these values in the plan, and each instance's object in the plan refines to its object in
-- the apply: what its provider answered, or the prior object if nothing is planned for it.
pub record IsAnsweredPlan (ms : List Meaning) (plan : PlanView) (objects : ℕ → InstanceKeyView → Tree) (resolved_names : ℕ → ResolvedView) : Type 0 where
  pub ranked : Ranked (directly_before (plan_names plan))
  pub planned : AreResolvedNames (deciding ms plan.prior.resources plan.shapes) plan.variables (plan_names plan) resolved_names
  pub answered : AreAnswered plan.variables (plan_names plan) (decided_object ms plan.prior.resources) objects resolved_names

-- what an action would request by the object that its block gives in the plan, or that object's fault
abbrev pub asked_in_plan : PlanView → (ℕ → ResolvedView) → BlockView → SchemaView → ActionView → Result Asked InstanceFaultView
asked_in_plan plan resolved_names block schema a =
    asked_for (plan_names plan) schema a (instance_object schema block a.key (environment plan.variables (plan_names plan) resolved_names))

-- This holds of what an action would request by the plan and of what it requests, if instances have these objects.
abbrev pub OfRequests : (Asked → Asked → Type 0) → Type 0
OfRequests Holds =
    (ms : List Meaning) (plan : PlanView) (objects : ℕ → InstanceKeyView → Tree) (resolved_names : ℕ → ResolvedView) (requests : Requests)
    → IsAnsweredPlan ms plan objects resolved_names → AreRequests plan requests
    → (block : BlockView) (a : ActionView) (schema : SchemaView) (planned made : Asked) → meant_at (plan_names plan) a.resource ≡ Some (a_block block)
    → asked_in_plan plan resolved_names block schema a ≡ Ok planned
    → asked_for (plan_names plan) schema a (requests objects a schema) ≡ Ok made
    → Holds planned made

-- a requested object refines to another; a destroy has no requested object
abbrev pub RefinesWhere : Option Tree → Option Tree → Type 0
RefinesWhere (Some t) (Some u) = Refines t u
RefinesWhere None None = ⊤
RefinesWhere _ _ = ⊥

-- The object that an action would request by the plan refines to the one that it requests.
abbrev pub RequestsRefine : Type 0
RequestsRefine = OfRequests (λ planned made. RefinesWhere planned.object made.object)

-- So an attribute that is known in the plan is unchanged in the request, in an update as in a create.
abbrev pub KnownAttributesStay : Type 0
KnownAttributesStay =
    OfRequests (λ planned made. (name : List ℕ) (v : Tree) → option_and_then (part_at name) planned.object ≡ Some v → known v ≡ true → option_and_then (part_at name) made.object ≡ Some v)

-- the object that a step is planned with; a destroy has no planned object
abbrev pub planned_object : StepView → Option Tree
planned_object (create asked) = Some asked
planned_object (update prior asked names) = Some asked
planned_object (replacement asked names) = Some asked
planned_object _ = None

-- What an action would request by the plan is the object that it is planned with, if its step is one of those that are decided
-- about its instance by the object that the block gives in the plan.
abbrev pub PlannedObjectsAreAsked : Type 0
PlannedObjectsAreAsked =
    (plan : PlanView) (resolved_names : ℕ → ResolvedView) (block : BlockView) (a : ActionView) (schema : SchemaView) (records : List RecordView) (d : DecisionView) (planned : Asked)
    → meant_at (plan_names plan) a.resource ≡ Some (a_block block)
    → decision schema block.lifecycle records (instance_object schema block a.key (environment plan.variables (plan_names plan) resolved_names)) ≡ Ok d
    → Contains (decided_steps records d) a.step
    → asked_in_plan plan resolved_names block schema a ≡ Ok planned
    → planned.object ≡ planned_object a.step
