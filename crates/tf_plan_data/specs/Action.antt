-- The actions of a plan from any prior state, as plain data.
use Rattle.std.specs.Prelude.{ℕ, List, map, String, string_bytes}
use Rattle.std.specs.declared.alloc.Global.{Global}
use Rattle.tf_plan_data.specs.declared.action.Action.{Action}
use Rattle.tf_plan_data.specs.declared.step.Step.{Step}
use Rattle.tf_plan_data.specs.declared.step.Step.TheVariants as rust
use Rattle.tf_config_address.specs.ResourceAddr.{ResourceAddrView, addr_of}
use Rattle.tf_config_address.specs.ObjectId.{InstanceKeyView, instance_key_of}
use Rattle.tf_state_data.specs.declared.object.Object.{Object}
use Rattle.tf_value_data.specs.Tree.{Tree, tree_of}

-- A step: what an action does to which object of an instance.
pub data StepView : Type 0 where
  -- creates an object; there is no current one
  create : Tree → StepView
  -- changes the current object, the first, to the second, in the attributes of these names
  update : Tree → Tree → List (List ℕ) → StepView
  -- creates the object that replaces another one because of changes of the attributes of these names
  replacement : Tree → List (List ℕ) → StepView
  -- destroys the current object, which is this one and which another one replaces
  replaced : Tree → StepView
  -- destroys the current object, which is this one, without replacement
  destroyed : Tree → StepView
  -- destroys the deposed object of a key, which is this one
  deposed_destroyed : List ℕ → Tree → StepView

-- An action: the numbers of its resource and of its instance among those of the resource, the address of the instance,
-- its step, and the version of the schema that its objects follow.
pub record ActionView : Type 0 where
  pub resource : ℕ
  pub instance : ℕ
  pub addr : ResourceAddrView
  pub key : InstanceKeyView
  pub step : StepView
  pub version : ℕ

-- the attributes of a prior object
abbrev pub prior_of : Object → Tree
prior_of o = tree_of o.value

-- names as lists of bytes
abbrev pub names_of : List (String Global) → List (List ℕ)
names_of = map string_bytes

abbrev pub step_of : Step → StepView
step_of (rust.Create asked) = create (tree_of asked)
step_of (rust.Update prior asked names) = update (prior_of prior) (tree_of asked) (names_of names.items)
step_of (rust.CreateReplacement asked names) = replacement (tree_of asked) (names_of names.items)
step_of (rust.DestroyReplaced prior) = replaced (prior_of prior)
step_of (rust.Destroy prior) = destroyed (prior_of prior)
step_of (rust.DestroyDeposed key prior) = deposed_destroyed (string_bytes key) (prior_of prior)

abbrev pub action_of : Action → ActionView
action_of a =
    record { resource = a.resource; instance = a.instance; addr = addr_of a.addr; key = instance_key_of a.key; step = step_of a.step; version = a.version }
