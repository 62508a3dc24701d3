-- Which action of a plan is before which.
use Rattle.std.specs.Prelude.{◌≡◌, ◌==◌, ◌&&◌, ◌||◌, ◌⊎◌, Bool, true, false, not}
use Rattle.tf_plan_order.specs.OrderInput.{OrderInputView}
use Rattle.tf_plan_order.specs.declared.action.OrderedAction.{OrderedAction}
use Rattle.tf_plan_order.specs.declared.action.ActionKind.{ActionKind}
use Rattle.tf_plan_order.specs.declared.action.ActionKind.TheVariants.{Apply, Destroy, DestroyDeposed}

-- an action creates or updates an object
abbrev pub IsApply : OrderedAction → Type 0
IsApply x = x.kind ≡ Apply

-- an action destroys an object, the current or a deposed one
abbrev pub IsDestroy : OrderedAction → Type 0
IsDestroy x = (x.kind ≡ Destroy) ⊎ (x.kind ≡ DestroyDeposed)

-- the destroy of the current object of an instance, and the create of what replaces it
pub record IsReplace (old new : OrderedAction) : Type 0 where
  pub destroys : old.kind ≡ Destroy
  pub creates : new.kind ≡ Apply
  pub old_half : old.replaces ≡ true
  pub new_half : new.replaces ≡ true
  pub resource : old.resource ≡ new.resource
  pub instance : old.instance ≡ new.instance

-- One action is before another in exactly these cases.
pub data Before (t : OrderInputView) : OrderedAction → OrderedAction → Type 0 where
  -- what is needed is created or updated first
  needed_first : (b a : OrderedAction) → IsApply b → IsApply a → t.needs a.resource b.resource ≡ true → Before t b a
  -- what needed another is destroyed first, unless the other needed it too
  dependent_destroyed_first : (a b : OrderedAction) → IsDestroy a → IsDestroy b → t.needed a.resource b.resource ≡ true → t.needed b.resource a.resource ≡ false → Before t a b
  -- an object that isn't late is destroyed before it is replaced
  old_destroyed_first : (old new : OrderedAction) → IsReplace old new → t.late old.resource ≡ false → Before t old new
  -- a late object is replaced before it is destroyed
  new_created_first : (old new : OrderedAction) → IsReplace old new → t.late old.resource ≡ true → Before t new old
  -- a late object is destroyed after all that needs it, or needed it, is created or updated
  dependent_applied_first : (a b : OrderedAction) → IsApply a → IsDestroy b → t.late b.resource ≡ true → (t.needs a.resource b.resource ≡ true) ⊎ (t.needed a.resource b.resource ≡ true) → Before t a b

-- ---- the same relation as a computable test

-- whether two actions are the halves of one replace
abbrev pub are_halves : OrderedAction → OrderedAction → Bool
are_halves x y = x.replaces && y.replaces && (x.resource == y.resource) && (x.instance == y.instance)

-- whether what the one destroys needed what the other does, and not the other way round
abbrev pub is_destroyed_first : OrderInputView → OrderedAction → OrderedAction → Bool
is_destroyed_first t x y = t.needed x.resource y.resource && not (t.needed y.resource x.resource)

-- whether the one needs the other, or needed it
abbrev pub is_dependent : OrderInputView → OrderedAction → OrderedAction → Bool
is_dependent t x y = t.needs x.resource y.resource || t.needed x.resource y.resource

-- by what the two do
abbrev pub is_before_by : OrderInputView → OrderedAction → OrderedAction → ActionKind → ActionKind → Bool
is_before_by t x y Apply Apply = t.needs y.resource x.resource
is_before_by t x y Apply Destroy = t.late y.resource && (are_halves x y || is_dependent t x y)
is_before_by t x y Apply DestroyDeposed = t.late y.resource && is_dependent t x y
is_before_by t x y Destroy Apply = are_halves x y && not (t.late x.resource)
is_before_by t x y Destroy Destroy = is_destroyed_first t x y
is_before_by t x y Destroy DestroyDeposed = is_destroyed_first t x y
is_before_by t x y DestroyDeposed Apply = false
is_before_by t x y DestroyDeposed Destroy = is_destroyed_first t x y
is_before_by t x y DestroyDeposed DestroyDeposed = is_destroyed_first t x y

-- whether an action is before another
abbrev pub is_before : OrderInputView → OrderedAction → OrderedAction → Bool
is_before t x y = is_before_by t x y x.kind y.kind
