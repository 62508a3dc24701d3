-- What is known of an action before its call, so that its outcome is reported without taking memory.
use Rattle.std.specs.Prelude.{◌≡◌, ◌+◌, ◌<◌, ◌^◌, ℕ, Bool, true, false, ◌&&◌, if◌then◌else◌, List, [], ◌∷◌, Option, Some, None, ⊤}
use Rattle.std.specs.Option.{option_map_or}
use Rattle.tf_plan_data.specs.Action.{ActionView, StepView, replacement}
use Rattle.tf_config_address.specs.ResourceAddr.{ResourceAddrView}
use Rattle.tf_config_address.specs.ObjectId.{ObjectIdView}
use Rattle.tf_plan_data.specs.Fits.{is_apply, deposed_key, op_of}
use Rattle.tf_plan_data.specs.Plan.{PlanView, plan_names}
use Rattle.tf_provider_protocol.specs.declared.request.Op.{Op}
use Rattle.tf_state_next.specs.After.{object_at}
use Rattle.tf_state_next.specs.DeposedKey.{IsDeposedKey}
use Rattle.tf_state_next.specs.Ends.{RecordInputView}
use Rattle.tf_state_data.specs.Record.{RecordView}
use Rattle.tf_state_data.specs.State.{StateView, resource_at}
use Rattle.tf_walk_buffers.specs.Dependencies.{dependencies}
use Rattle.tf_walk_buffers.specs.Place.{place_of}

-- The target of an action: an instance, whose current object it makes or changes, with the input for that object's
-- record, or an object that it destroys.
pub data Target : Type 0 where
  an_instance : RecordInputView → Target
  an_object : ObjectIdView → Target

-- The place of an action's diagnostics, its operation, its resource and its target.
pub record Head : Type 0 where
  pub place : List ℕ
  pub op : Op
  pub addr : ResourceAddrView
  pub target : Target

-- The input for the record of an action's object: the instance's key, the version of the schema that a new object
-- follows, what the resource needs by the configuration, whether it is late, and the given key for an old object that
-- becomes deposed.
abbrev pub given_with : PlanView → ActionView → Option (List ℕ) → RecordInputView
given_with plan a deposed =
    record {
      key = a.key;
      schema_version = a.version;
      dependencies = dependencies plan.needs (plan_names plan) a.resource;
      create_before_destroy = plan.late a.resource;
      deposed_key = deposed;
    }

-- the target of an action whose old object gets the given key if it becomes deposed
abbrev pub target_with : PlanView → ActionView → Option (List ℕ) → Target
target_with plan a deposed = if is_apply a.step then an_instance (given_with plan a deposed) else an_object (object_at a.key (deposed_key a.step))

abbrev pub is_replacement : StepView → Bool
is_replacement (replacement asked names) = true
is_replacement _ = false

-- the records that a state has at an address
abbrev pub records_at : ResourceAddrView → StateView → List RecordView
records_at addr s = option_map_or (λ r. r.records) (resource_at addr s.resources) []

-- An old object gets a key exactly in a replace that creates first. It is the first key from the new serial on that no
-- deposed object of the instance has.
abbrev pub IsKeyFor : PlanView → ActionView → Option (List ℕ) → Type 0
IsKeyFor plan a None = (is_replacement a.step && plan.late a.resource) ≡ false
IsKeyFor plan a (Some key) = ((is_replacement a.step && plan.late a.resource) ≡ true) × IsDeposedKey (plan.prior.serial + 1) a.key (records_at a.addr plan.prior) key

-- the schema version in the input for a record is one that a text can hold
abbrev pub HasVersion : Target → Type 0
HasVersion (an_instance given) = given.schema_version < 2 ^ 32
HasVersion (an_object id) = ⊤

-- the key that an old object gets, if it gets one
abbrev pub key_in : Target → Option (List ℕ)
key_in (an_instance given) = given.deposed_key
key_in (an_object id) = None

-- the target of an action
pub record IsTargetOf (plan : PlanView) (a : ActionView) (t : Target) : Type 0 where
  pub same : t ≡ target_with plan a (key_in t)
  pub key : IsKeyFor plan a (key_in t)

-- what is known of an action
pub record IsHeadOf (plan : PlanView) (a : ActionView) (h : Head) : Type 0 where
  pub place : h.place ≡ place_of a
  pub op : h.op ≡ op_of a.step
  pub addr : h.addr ≡ a.addr
  pub target : IsTargetOf plan a h.target

-- what is known of each of some actions
abbrev pub AreHeads : PlanView → List ActionView → List Head → Type 0
AreHeads plan [] [] = ⊤
AreHeads plan (a ∷ actions) (h ∷ heads) = IsHeadOf plan a h × AreHeads plan actions heads
AreHeads plan _ _ = ⊥
