-- That an apply's requests to providers agree with its plan.
use Rattle.std.specs.Prelude.{◌≡◌, ℕ, true, false, List, Option, Some, None, option_and_then, slice_get, Ok, Contains}
use Rattle.tf_plan_data.specs.Action.{ActionView, StepView, update, replaced, destroyed, deposed_destroyed}
use Rattle.tf_config_address.specs.ObjectId.{InstanceKeyView}
use Rattle.tf_laws.specs.AskingLaws.{RefinesWhere, planned_object}
use Rattle.tf_config_data.specs.Config.{ConfigView}
use Rattle.tf_config_data.specs.Names.{meant_at}
use Rattle.tf_laws.specs.Reapply.{IsSound}
use Rattle.tf_walk_action.specs.Asked.{AreRequests, Requests, asked_for, op_of}
use Rattle.tf_walk_action.specs.Objects.{prior_object}
use Rattle.tf_walk_action.specs.Outcome.{AreOutcomes, ActionResultView, called, done_at}
use Rattle.tf_walk_action.specs.declared.excuse.Excuse.{Excuse}
use Rattle.tf_plan_planner.specs.Plan.{IsPlan}
use Rattle.tf_plan_data.specs.Address.{address_text}
use Rattle.tf_plan_data.specs.Fits.{deposed_key, is_apply}
use Rattle.tf_plan_data.specs.Plan.{PlanView, plan_names}
use Rattle.tf_provider_protocol.specs.Meaning.{Answer, Asked, Meaning, schema_in}
use Rattle.tf_provider_protocol.specs.Schema.{SchemaView}
use Rattle.tf_provider_protocol.specs.declared.verdict.Verdict.{Verdict}
use Rattle.tf_state_data.specs.State.{StateView}
use Rattle.tf_value_data.specs.Known.{known}
use Rattle.tf_value_data.specs.Refinement.{Refines}
use Rattle.tf_value_data.specs.Tree.{Tree, Entries, part_at}

-- the object that a step changes or destroys; a step that creates an object has no such object
abbrev pub object_before : StepView → Option Tree
object_before (update prior asked names) = Some prior
object_before (replaced prior) = Some prior
object_before (destroyed prior) = Some prior
object_before (deposed_destroyed key prior) = Some prior
object_before _ = None

-- A request is as planned: it has the action's instance, the operation of the action's step, and the object that the step
-- changes or destroys. The step's planned object refines to the requested one, so an attribute that is known in the plan is
-- unchanged in it.
pub record IsAskedAsPlanned (a : ActionView) (asked : Asked) : Type 0 where
  pub op : asked.op ≡ op_of a.step
  pub address : asked.address ≡ address_text a.addr a.key
  pub type_name : asked.type_name ≡ a.addr.type_name
  pub deposed : asked.deposed ≡ deposed_key a.step
  pub prior : asked.prior ≡ object_before a.step
  pub object : RefinesWhere (planned_object a.step) asked.object
  pub unchanged : (name : List ℕ) (v : Tree) → option_and_then (part_at name) (planned_object a.step) ≡ Some v → known v ≡ true → option_and_then (part_at name) asked.object ≡ Some v

-- A plan was made from a sound configuration and a sound prior state, and no name of the configuration needs itself.
pub record IsSoundPlan (ms : List Meaning) (config : ConfigView) (variables : Entries) (prior : StateView) (plan : PlanView) : Type 0 where
  pub sound : IsSound ms config variables prior
  pub planned : IsPlan ms config variables prior plan
  pub acyclic : (n : ℕ) → plan.needs n n ≡ false

-- The instances that the resource at a place needs agree with the plan. The object that a create, an update or a replacement is
-- planned with refines to its instance's object, and an instance without such an action has its prior object.
pub record StandAsPlanned (plan : PlanView) (place : ℕ) (objects : ℕ → InstanceKeyView → Tree) : Type 0 where
  pub planned : (a : ActionView) (t : Tree) → Contains plan.actions a → plan.needs place a.resource ≡ true → planned_object a.step ≡ Some t → Refines t (objects a.resource a.key)
  pub left : (n : ℕ) (key : InstanceKeyView) → plan.needs place n ≡ true
      → ((a : ActionView) → Contains plan.actions a → is_apply a.step ≡ true → a.resource ≡ n → ¬ (a.key ≡ key))
      → objects n key ≡ prior_object plan.prior key (meant_at (plan_names plan) n)

-- If the instances that an action's resource needs agree with the plan, the action's request is as planned.
abbrev pub RequestsAreAsPlanned : Type 0
RequestsAreAsPlanned =
    (ms : List Meaning) (config : ConfigView) (variables : Entries) (prior : StateView) (plan : PlanView) (requests : Requests) (objects : ℕ → InstanceKeyView → Tree)
    (a : ActionView) (schema : SchemaView) (asked : Asked)
    → IsSoundPlan ms config variables prior plan → AreRequests plan requests
    → Contains plan.actions a → schema_in a.addr.type_name ms ≡ Some schema → StandAsPlanned plan a.resource objects
    → asked_for (plan_names plan) schema a (requests objects a schema) ≡ Ok asked → IsAskedAsPlanned a asked

-- In every apply, whatever the outcomes of other actions, the request of each called action is as planned, and what was known
-- of its object in the plan was unchanged in the request.
abbrev pub CallsAreAsPlanned : Type 0
CallsAreAsPlanned =
    (ms : List Meaning) (config : ConfigView) (variables : Entries) (prior : StateView) (plan : PlanView) (requests : Requests) (excuses : List Excuse) (done : List ActionResultView)
    → IsSoundPlan ms config variables prior plan → AreRequests plan requests → AreOutcomes ms requests plan excuses done
    → (k : ℕ) (a : ActionView) (asked : Asked) (answer : Option Answer) (v : Verdict) → slice_get plan.actions k ≡ Some a → done_at done k ≡ called asked answer v
    → IsAskedAsPlanned a asked
