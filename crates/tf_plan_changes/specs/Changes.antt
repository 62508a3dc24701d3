-- The changes of a plan, as plain data.
use Rattle.std.specs.Prelude.{ℕ, Bool, true, false, ◌&&◌, ◌==◌, if◌then◌else◌, List, [], ◌∷◌, Option, Some, None}
use Rattle.std.specs.List.{filter_map}
use Rattle.std.specs.Option.{option_or}
use Rattle.tf_config_address.specs.ObjectId.{InstanceKeyView}
use Rattle.tf_config_address.specs.ResourceAddr.{ResourceAddrView}
use Rattle.tf_plan_data.specs.Action.{ActionView, StepView, create, update, replacement, replaced, destroyed, deposed_destroyed}
use Rattle.tf_value_data.specs.Tree.{Tree}

-- What is done to an object. A replace has the names of the attributes whose changes replace the object, or none if
-- it is tainted; if it is late, the new object is created before the old one is destroyed.
pub data KindView : Type 0 where
  create_it : KindView
  update_it : KindView
  replace_it : List (List ℕ) → KindView
  replace_late : List (List ℕ) → KindView
  destroy_it : KindView

-- A change: the number and the address of its resource, the instance, the key of the object if it is deposed, what is
-- done, and the object before and after.
pub record ChangeView : Type 0 where
  pub resource : ℕ
  pub addr : ResourceAddrView
  pub key : InstanceKeyView
  pub deposed : Option (List ℕ)
  pub kind : KindView
  pub before : Option Tree
  pub after : Option Tree

-- two actions are about the same instance
abbrev pub is_same_instance : ActionView → ActionView → Bool
is_same_instance a b = (a.resource == b.resource) && (a.instance == b.instance)

-- the object that a step destroys as half of a replace
abbrev pub object_replaced : StepView → Option Tree
object_replaced (replaced prior) = Some prior
object_replaced _ = None

-- the object that another action of the same instance destroys as half of a replace
abbrev pub old_in : ActionView → ActionView → Option Tree
old_in a b = if is_same_instance a b then object_replaced b.step else None

-- the object that an action replaces: the first such object
abbrev pub old_of : ActionView → List ActionView → Option Tree
old_of a [] = None
old_of a (b ∷ others) = option_or (old_in a b) (old_of a others)

abbrev pub replace_kind : Bool → List (List ℕ) → KindView
replace_kind late names = if late then replace_late names else replace_it names

-- a change of the instance of an action
abbrev pub change : ActionView → Option (List ℕ) → KindView → Option Tree → Option Tree → ChangeView
change a deposed kind before after = record { resource = a.resource; addr = a.addr; key = a.key; deposed = deposed; kind = kind; before = before; after = after }

abbrev pub change_by : (ℕ → Bool) → List ActionView → ActionView → StepView → Option ChangeView
change_by late actions a (create asked) = Some (change a None create_it None (Some asked))
change_by late actions a (update prior asked names) = Some (change a None update_it (Some prior) (Some asked))
change_by late actions a (replacement asked names) = Some (change a None (replace_kind (late a.resource) names) (old_of a actions) (Some asked))
change_by late actions a (replaced prior) = None
change_by late actions a (destroyed prior) = Some (change a None destroy_it (Some prior) None)
change_by late actions a (deposed_destroyed key prior) = Some (change a (Some key) destroy_it (Some prior) None)

-- The change that an action makes. The destroy of a replace makes none of its own: its object is the one before the
-- change that the replacement makes.
abbrev pub change_of : (ℕ → Bool) → List ActionView → ActionView → Option ChangeView
change_of late actions a = change_by late actions a a.step

-- the changes that actions make, in the order of the actions, by which resources are late
abbrev pub changes : (ℕ → Bool) → List ActionView → List ChangeView
changes late actions = filter_map (change_of late actions) actions
