-- The instances that a plan is about, each with its outcome, and the actions and refusals that these outcomes give.
use Rattle.std.specs.Prelude.{ℕ, List, [], ◌∷◌, map, Option, Ok, Err}
use Rattle.std.specs.List.{enumerate_from, flat_map}
use Rattle.std.specs.Option.{option_map_or}
use Rattle.tf_plan_data.specs.Action.{ActionView, StepView, action_of}
use Rattle.tf_config_address.specs.ResourceAddr.{ResourceAddrView, addr_of}
use Rattle.tf_config_address.specs.ObjectId.{InstanceKeyView, instance_key_of}
use Rattle.tf_plan_decision.specs.Outcome.{OutcomeView}
use Rattle.tf_plan_decision.specs.Answer.{decision_fault_of}
use Rattle.tf_plan_decision.specs.Decision.{DecisionFaultView}
use Rattle.tf_plan_decision.specs.declared.collecting.Decided.{Decided}
use Rattle.tf_plan_decision.specs.declared.collecting.ResourceHeader.{ResourceHeader}
use Rattle.tf_plan_decision.specs.declared.collecting.RefusedInstance.{RefusedInstance}
use Rattle.tf_plan_order.specs.Members.{InstanceToPlanView}
use Rattle.tf_provider_protocol.specs.Meaning.{Meaning, schema_in}
use Rattle.tf_provider_protocol.specs.Schema.{SchemaView}

-- a resource as its actions name it: by its number and its address, with the version of the schema of its type
pub record OfView : Type 0 where
  pub resource : ℕ
  pub addr : ResourceAddrView
  pub version : ℕ

-- An instance of a resource, by its number among the resource's instances and its key, with its outcome.
pub record InstanceOutcomeView : Type 0 where
  pub of : OfView
  pub instance : ℕ
  pub key : InstanceKeyView
  pub outcome : OutcomeView

-- ---- what an outcome gives

-- the steps of an instance; a refused instance has no steps
abbrev pub steps_in : OutcomeView → List StepView
steps_in (Ok steps) = steps
steps_in (Err why) = []

-- the fault of an instance that is refused
abbrev pub fault_in : OutcomeView → List DecisionFaultView
fault_in (Ok steps) = []
fault_in (Err why) = why ∷ []

-- a step as the action of an instance, which is named by its number and its key
abbrev pub action : OfView → ℕ → InstanceKeyView → StepView → ActionView
action of i key step = record { resource = of.resource; instance = i; addr = of.addr; key = key; step = step; version = of.version }

-- the actions of an instance: its steps, in their order
abbrev pub instance_actions : InstanceOutcomeView → List ActionView
instance_actions i = map (action i.of i.instance i.key) (steps_in i.outcome)

-- a refused instance, and why it is refused
pub record RefusedInstanceView : Type 0 where
  pub addr : ResourceAddrView
  pub key : InstanceKeyView
  pub why : DecisionFaultView

-- the refusal of an instance, if it is refused
abbrev pub instance_refusals : InstanceOutcomeView → List RefusedInstanceView
instance_refusals i = map (λ why. record { addr = i.of.addr; key = i.key; why = why }) (fault_in i.outcome)

-- ---- the instances of a resource

-- the version of a schema, or 0 if there is none, and then no action has it
abbrev pub version_of : Option SchemaView → ℕ
version_of schema = option_map_or (λ s. s.version) schema 0

-- the resource with a number and an address, as its actions name it
abbrev pub of_at : List Meaning → ℕ → ResourceAddrView → OfView
of_at ms n addr = record { resource = n; addr = addr; version = version_of (schema_in addr.type_name ms) }

-- The members of a resource with their outcomes. A member's number is its place among them.
abbrev pub instance_outcomes : OfView → (InstanceToPlanView → OutcomeView) → List InstanceToPlanView → List InstanceOutcomeView
instance_outcomes of becomes all = map (λ m. record { of = of; instance = m.0; key = m.1.key; outcome = becomes m.1 }) (enumerate_from 0 all)

-- ---- as plain data

-- actions and refusals
pub record DecidedView : Type 0 where
  pub actions : List ActionView
  pub refusals : List RefusedInstanceView

-- the actions and the refusals of instances
abbrev pub decisions_on : List InstanceOutcomeView → DecidedView
decisions_on all = record { actions = flat_map instance_actions all; refusals = flat_map instance_refusals all }

-- a refused instance as plain data
abbrev pub refused_of : RefusedInstance → RefusedInstanceView
refused_of r = record { addr = addr_of r.addr; key = instance_key_of r.key; why = decision_fault_of r.why }

abbrev pub decided_of : Decided → DecidedView
decided_of d = record { actions = map action_of d.actions.items; refusals = map refused_of d.refusals.items }

abbrev pub of_view : ResourceHeader → OfView
of_view of = record { resource = of.resource; addr = addr_of of.addr.now; version = of.version }
