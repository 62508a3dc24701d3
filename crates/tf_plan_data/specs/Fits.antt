-- The properties of each plan that is made from a configuration and a prior state.
use Rattle.std.specs.Prelude.{◌≡◌, ◌+◌, ◌<◌, ◌^◌, ℕ, Bool, true, false, List, Option, None, Some, map, slice_get, ⊤}
use Rattle.std.specs.List.{AllByRecursion}
use Rattle.tf_plan_data.specs.Action.{ActionView, StepView, create, update, replacement, replaced, destroyed, deposed_destroyed, action_of}
use Rattle.tf_config_address.specs.ResourceAddr.{ResourceAddrView}
use Rattle.tf_config_address.specs.ObjectId.{InstanceKeyView, single, number, name}
use Rattle.tf_config_data.specs.Config.{BlockView, config_of}
use Rattle.tf_config_data.specs.Names.{NameView, a_block, meant_at, names_of}
use Rattle.tf_config_names.specs.Needs.{IsAcyclic, IsDependence}
use Rattle.tf_plan_order.specs.ResourceIndex.{ResourceRefView, numbered, place_in}
use Rattle.tf_provider_protocol.specs.declared.request.Op.{Op}
use Rattle.tf_provider_protocol.specs.declared.request.Op.TheVariants.{Create, Update, Destroy}
use Rattle.tf_state_data.specs.State.{state_of}
use Rattle.tf_plan_data.specs.declared.plan.Plan.{Plan}

-- it creates or updates an object
abbrev pub is_apply : StepView → Bool
is_apply (replaced prior) = false
is_apply (destroyed prior) = false
is_apply (deposed_destroyed key prior) = false
is_apply _ = true

-- the operation that a provider is asked for in a step
abbrev pub op_of : StepView → Op
op_of (create asked) = Create
op_of (update prior asked names) = Update
op_of (replacement asked names) = Create
op_of _ = Destroy

-- the key of the deposed object that a step destroys, or `None` if the step is about the current object
abbrev pub deposed_key : StepView → Option (List ℕ)
deposed_key (deposed_destroyed key prior) = Some key
deposed_key _ = None

-- an action's resource is the one at its number
abbrev pub IsPlaced : List ResourceRefView → ActionView → Type 0
IsPlaced all a = place_in all a.addr ≡ Some a.resource

-- the number of an instance is less than the most instances that a configuration may have
abbrev pub IsNumbered : InstanceKeyView → Type 0
IsNumbered single = ⊤
IsNumbered (number n) = n < 2000
IsNumbered (name s) = ⊤

-- The subject of a create or an update: the block at the place of its resource, and an instance that the block may
-- have.
pub record IsOfBlock (names : List NameView) (a : ActionView) : Type 0 where
  pub block : BlockView
  pub stands : meant_at names a.resource ≡ Some (a_block block)
  pub own : block.addr ≡ a.addr
  pub numbered : IsNumbered a.key

abbrev pub IsDeclared : List NameView → ActionView → Type 0
IsDeclared names a = is_apply a.step ≡ true → IsOfBlock names a

-- The subject of an action: an instance, whether an object is created or updated or else destroyed, and the key of a
-- deposed object that is destroyed.
pub record AboutView : Type 0 where
  pub addr : ResourceAddrView
  pub key : InstanceKeyView
  pub applies : Bool
  pub deposed : Option (List ℕ)

abbrev pub about : ActionView → AboutView
about a = record { addr = a.addr; key = a.key; applies = is_apply a.step; deposed = deposed_key a.step }

-- no two actions have the same subject
abbrev pub AreApart : List ActionView → Type 0
AreApart actions = (i j : ℕ) (a b : ActionView) → slice_get actions i ≡ Some a → slice_get actions j ≡ Some b → about a ≡ about b → i ≡ j

-- The parts of a plan fit together, as those of each plan that is made from a configuration and a state do. The number
-- after the prior serial is a serial too.
pub record FitsTogether (p : Plan) : Type 0 where
  pub dependence : IsDependence (names_of (config_of p.config)) p.dependence
  pub acyclic : IsAcyclic p.dependence
  pub placed : AllByRecursion (IsPlaced (numbered (names_of (config_of p.config)) (state_of p.prior).resources)) (map action_of p.actions.items)
  pub declared : AllByRecursion (IsDeclared (names_of (config_of p.config))) (map action_of p.actions.items)
  pub apart : AreApart (map action_of p.actions.items)
  pub serial : (state_of p.prior).serial + 1 < 2 ^ 32
