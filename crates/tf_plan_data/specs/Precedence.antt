-- What the order of actions sees of an action.
use Rattle.std.specs.Prelude.{Bool, true, false}
use Rattle.tf_plan_data.specs.Action.{ActionView, StepView, replacement, replaced, destroyed, deposed_destroyed}
use Rattle.tf_plan_order.specs.declared.action.OrderedAction.{OrderedAction as Ordered}
use Rattle.tf_plan_order.specs.declared.action.ActionKind.{ActionKind}
use Rattle.tf_plan_order.specs.declared.action.ActionKind.TheVariants.{Apply, Destroy, DestroyDeposed}

-- it creates or updates the current object, or destroys it, or a deposed one
abbrev pub kind_of : StepView → ActionKind
kind_of (replaced prior) = Destroy
kind_of (destroyed prior) = Destroy
kind_of (deposed_destroyed key prior) = DestroyDeposed
kind_of _ = Apply

-- it is half of a replace
abbrev pub is_half : StepView → Bool
is_half (replacement asked names) = true
is_half (replaced prior) = true
is_half _ = false

-- an action as the order of actions sees it
abbrev pub ordered : ActionView → Ordered
ordered a = record { resource = a.resource; instance = a.instance; kind = kind_of a.step; replaces = is_half a.step }
