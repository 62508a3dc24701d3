-- The index of a list of actions, by which the candidates for being before one are found.
use Rattle.std.specs.List.{flat_map, range_with_len}
use Rattle.std.specs.Prelude.{◌≡◌, ◌≤◌, ◌<◌, ◌-◌, ◌++◌, ◌∷◌, ◌&&◌, [], ℕ, Bool, true, false, if◌then◌else◌, List, length, Contains, Vec}
use Rattle.tf_graph.specs.Lists.{row}
use Rattle.tf_graph.specs.NodeSet.{has}
use Rattle.tf_plan_order.specs.Before.{is_before}
use Rattle.tf_plan_order.specs.Order.{action_at}
use Rattle.tf_plan_order.specs.OrderInput.{OrderInputView, order_input_of}
use Rattle.tf_plan_order.specs.declared.action.OrderedAction.{OrderedAction}
use Rattle.tf_plan_order.specs.declared.action.ActionKind.{ActionKind}
use Rattle.tf_plan_order.specs.declared.action.ActionKind.TheVariants.{Apply, Destroy, DestroyDeposed}
use Rattle.tf_plan_order.specs.declared.order_input.OrderInput.{OrderInput}

-- a set has lost nothing
pub record HasGrown (set more : List Bool) : Type 0 where
  pub long : length more ≡ length set
  pub kept : (n : ℕ) → has set n ≡ true → has more n ≡ true

-- a set of places has each action that is before the one at a place
abbrev pub HoldsBefore : OrderInputView → List OrderedAction → ℕ → List Bool → Type 0
HoldsBefore t actions second set = (first : ℕ) → first < length actions → is_before t (action_at actions first) (action_at actions second) ≡ true → has set first ≡ true

-- a list for each resource with the places of its actions, as far as they are noted
pub record AreListed {A : Type 0} (actions : List OrderedAction) (noted : ℕ) (own : List (Vec ℕ A)) : Type 0 where
  pub within : (r k : ℕ) → Contains (row own r) k → k < length actions
  pub listed : (k : ℕ) → k < noted → (action_at actions k).resource < length own → Contains (row own (action_at actions k).resource) k

-- whether an action of a kind creates or updates an object
abbrev pub applies : ActionKind → Bool
applies Apply = true
applies Destroy = false
applies DestroyDeposed = false

-- the place of an action that creates or updates what a resource needs
abbrev pub early_place : OrderInputView → List OrderedAction → ℕ → ℕ → List ℕ
early_place t actions s k = if applies (action_at actions k).kind && t.needs s (action_at actions k).resource then k ∷ [] else []

-- the places of all that is created or updated of what a resource needs, in order
abbrev pub early_places : OrderInputView → List OrderedAction → ℕ → List ℕ
early_places t actions s = flat_map (early_place t actions s) (range_with_len 0 (length actions))

-- such a list for each resource, as far as places are noted: the rest is appended
abbrev pub AreEarly : {A : Type 0} → OrderInputView → List OrderedAction → ℕ → List (Vec ℕ A) → Type 0
AreEarly t actions noted early = (s : ℕ) → row early s ++ flat_map (early_place t actions s) (range_with_len noted (length actions - noted)) ≡ early_places t actions s

-- both lists, with one entry for each resource that the tables have
pub record IsKept {A : Type 0} (t : OrderInput) (actions : List OrderedAction) (noted : ℕ) (own early : List (Vec ℕ A)) : Type 0 where
  pub by_configuration : t.by_configuration.now.nodes ≤ length own
  pub by_state : t.by_state.now.nodes ≤ length own
  pub count : length early ≡ length own
  pub lists : AreListed actions noted own
  pub rows : AreEarly (order_input_of t) actions noted early
