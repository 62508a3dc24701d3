-- The objects of instances while a plan is carried out.
use Rattle.std.specs.Prelude.{ℕ, ◌==◌, ◌&&◌, Bool, false, if◌then◌else◌, List, [], ◌∷◌, Option, Some, None, slice_get}
use Rattle.std.specs.Option.{option_map_or}
use Rattle.tf_plan_data.specs.Action.{ActionView}
use Rattle.tf_config_address.specs.ResourceAddr.{ResourceAddrView}
use Rattle.tf_config_address.specs.ObjectId.{InstanceKeyView}
use Rattle.tf_config_address.specs.Same.{same_instance_key}
use Rattle.tf_config_data.specs.Names.{NameView, Meant, a_block, meant_at}
use Rattle.tf_plan_data.specs.Fits.{is_apply}
use Rattle.tf_provider_protocol.specs.Meaning.{object}
use Rattle.tf_state_data.specs.State.{StateView, record_in}
use Rattle.tf_value_data.specs.Tree.{Tree, null}
use Rattle.tf_walk_action.specs.ActionResult.{ActionResultView, called}

-- the object that a provider answered to an action; null if there is none
abbrev pub object_of : ActionResultView → Tree
object_of (called asked (Some (object t)) v) = t
object_of _ = null

-- the action creates or updates the instance of a key of the resource at a place
abbrev pub is_of : Option ActionView → ℕ → InstanceKeyView → Bool
is_of (Some a) place key = is_apply a.step && a.resource == place && same_instance_key a.key key
is_of None place key = false

-- the current object in a state of an instance of the resource at an address; null if there is none
abbrev pub current_object : StateView → ResourceAddrView → InstanceKeyView → Tree
current_object prior addr key = option_map_or (λ r. r.attributes) (record_in addr (record { key = key; deposed = None }) prior) null

-- the current object of an instance of the resource declared at a place; null if there is none
abbrev pub prior_object : StateView → InstanceKeyView → Option Meant → Tree
prior_object prior key (Some (a_block b)) = current_object prior b.addr key
prior_object prior key _ = null

-- The objects of instances after the given actions. An instance that one of them creates or updates has the object
-- that its provider answered, whatever existed before. Any other instance has its prior object.
abbrev pub objects_seen : List NameView → StateView → List ActionView → List (ℕ × ActionResultView) → ℕ → InstanceKeyView → Tree
objects_seen names prior actions [] place key = prior_object prior key (meant_at names place)
objects_seen names prior actions ((m, d) ∷ seen) place key =
    if is_of (slice_get actions m) place key then object_of d else objects_seen names prior actions seen place key
