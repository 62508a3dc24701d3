-- The objects that a plan gives to instances.
use Rattle.std.specs.Prelude.{ℕ, ◌==◌, ◌&&◌, if◌then◌else◌, List, [], ◌∷◌, Option, Some, None}
use Rattle.std.specs.Option.{option_map_or, option_or}
use Rattle.tf_config_address.specs.ObjectId.{InstanceKeyView}
use Rattle.tf_config_address.specs.Same.{same_instance_key}
use Rattle.tf_config_data.specs.Names.{NameView, meant_at}
use Rattle.tf_plan_data.specs.Action.{ActionView, StepView, create, update, replacement}
use Rattle.tf_plan_data.specs.Plan.{PlanView, plan_names}
use Rattle.tf_state_data.specs.State.{StateView}
use Rattle.tf_value_data.specs.Tree.{Tree}
use Rattle.tf_walk_action.specs.Objects.{prior_object}

-- the object that a step asks for
abbrev pub asked_in : StepView → Option Tree
asked_in (create asked) = Some asked
asked_in (update prior asked names) = Some asked
asked_in (replacement asked names) = Some asked
asked_in _ = None

-- the object that an action asks for, if it is about the instance of a key of the resource at a place
abbrev pub asked_for : ℕ → InstanceKeyView → ActionView → Option Tree
asked_for place key a = if (a.resource == place) && same_instance_key a.key key then asked_in a.step else None

-- the object that one of these actions asks for, for this instance
abbrev pub asked_by : ℕ → InstanceKeyView → List ActionView → Option Tree
asked_by place key [] = None
asked_by place key (a ∷ actions) = option_or (asked_for place key a) (asked_by place key actions)

-- The object that a plan gives to an instance: the one that an action asks for, with its unknown parts; if there is no
-- such action, the current object in the prior state, or null if it has none.
abbrev pub planned_object : List NameView → StateView → List ActionView → ℕ → InstanceKeyView → Tree
planned_object names prior actions place key = option_map_or (λ t. t) (asked_by place key actions) (prior_object prior key (meant_at names place))

-- the objects that a plan gives to instances
abbrev pub objects_planned : PlanView → ℕ → InstanceKeyView → Tree
objects_planned plan = planned_object (plan_names plan) plan.prior plan.actions
