-- What each action of a plan requests of its provider.
use Rattle.std.specs.Prelude.{ℕ, List, [], Option, Some, None, Result, Ok, Err}
use Rattle.tf_plan_data.specs.Action.{ActionView, StepView, create, update, replacement, replaced, destroyed, deposed_destroyed}
use Rattle.tf_config_address.specs.ObjectId.{InstanceKeyView}
use Rattle.tf_plan_object.specs.Instance.{InstanceFaultView}
use Rattle.tf_config_data.specs.Names.{NameView, Meant, a_block, meant_at}
use Rattle.tf_plan_object.specs.Kept.{kept_object}
use Rattle.tf_plan_data.specs.Address.{address_text}
pub use Rattle.tf_plan_data.specs.Fits.{op_of}
use Rattle.tf_plan_data.specs.Plan.{PlanView, plan_names}
use Rattle.tf_provider_protocol.specs.Meaning.{Asked}
use Rattle.tf_provider_protocol.specs.Schema.{SchemaView}
use Rattle.tf_provider_protocol.specs.declared.request.Op.TheVariants.{Create, Update, Destroy}
use Rattle.tf_walk_action.specs.Requests.{IsRequest}
use Rattle.tf_value_data.specs.Tree.{Tree}

-- ---- the requested objects

-- For the objects of instances, an action and its type's schema: the object that the block of the action's instance
-- gives, or its fault.
abbrev pub Requests : Type 0
Requests = (ℕ → InstanceKeyView → Tree) → ActionView → SchemaView → Result Tree InstanceFaultView

-- The requests agree with the blocks: each is the object, or the fault, that `IsRequest` gives for the objects of
-- instances.
abbrev pub AreRequests : PlanView → Requests → Type 0
AreRequests plan requests =
    (objects : ℕ → InstanceKeyView → Tree) (a : ActionView) (schema : SchemaView)
    → IsRequest plan.variables (plan_names plan) plan.shapes objects a.resource a.key schema (requests objects a schema)

-- the names of the attributes whose changes the block of a resource ignores
abbrev pub ignored_by : Option Meant → List (List ℕ)
ignored_by (Some (a_block b)) = b.lifecycle.ignore_changes
ignored_by _ = []

-- ---- the requests

-- create an object at an action's address
abbrev pub create_of : ActionView → Tree → Asked
create_of a t = record { op = Create; address = address_text a.addr a.key; type_name = a.addr.type_name; deposed = None; prior = None; object = Some t }

-- update the existing object to another
abbrev pub update_of : ActionView → Tree → Tree → Asked
update_of a prior t = record { op = Update; address = address_text a.addr a.key; type_name = a.addr.type_name; deposed = None; prior = Some prior; object = Some t }

-- destroy an object: the current one, or the deposed one of a key
abbrev pub destroy_of : ActionView → Option (List ℕ) → Tree → Asked
destroy_of a deposed prior = record { op = Destroy; address = address_text a.addr a.key; type_name = a.addr.type_name; deposed = deposed; prior = Some prior; object = None }

-- the request for an object, or the object's fault
abbrev pub unless_faulty : (Tree → Asked) → Result Tree InstanceFaultView → Result Asked InstanceFaultView
unless_faulty ask (Ok t) = Ok (ask t)
unless_faulty ask (Err why) = Err why

-- The request of an action's step, given the object of its instance's block (or its fault) and the names whose
-- changes are ignored. A create or a replacement requests that object. An update requests it with the kept attributes
-- of the prior object, both those that the provider sets and those that are ignored. A destroy requests no object, so
-- it has no fault.
abbrev pub asked_by_step : List (List ℕ) → SchemaView → ActionView → Result Tree InstanceFaultView → StepView → Result Asked InstanceFaultView
asked_by_step ignored schema a made (create asked) = unless_faulty (create_of a) made
asked_by_step ignored schema a made (update prior asked names) = unless_faulty (λ t. update_of a prior (kept_object schema ignored prior t)) made
asked_by_step ignored schema a made (replacement asked names) = unless_faulty (create_of a) made
asked_by_step ignored schema a made (replaced prior) = Ok (destroy_of a None prior)
asked_by_step ignored schema a made (destroyed prior) = Ok (destroy_of a None prior)
asked_by_step ignored schema a made (deposed_destroyed key prior) = Ok (destroy_of a (Some key) prior)

-- the request of an action, or its fault, given the object of its instance's block
abbrev pub asked_for : List NameView → SchemaView → ActionView → Result Tree InstanceFaultView → Result Asked InstanceFaultView
asked_for names schema a made = asked_by_step (ignored_by (meant_at names a.resource)) schema a made a.step
