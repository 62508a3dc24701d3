-- The order of a plan's actions, as a list of pairs.
use Rattle.std.specs.Prelude.{ℕ, false, if◌then◌else◌, List, [], ◌∷◌, length, slice_index_or}
use Rattle.std.specs.List.{flat_map, range_with_len}
use Rattle.tf_graph.specs.Digraph.{Digraph, predecessors_of}
use Rattle.tf_graph.specs.Path.{IsAcyclic}
use Rattle.tf_graph.specs.Solutions.{Ranked, StaysBelow}
use Rattle.tf_plan_order.specs.Before.{is_before}
use Rattle.tf_plan_order.specs.OrderInput.{OrderInputView}
use Rattle.tf_plan_order.specs.declared.action.OrderedAction.{OrderedAction}
use Rattle.tf_plan_order.specs.declared.action.ActionKind.TheVariants.{Apply}

-- the placeholder past the end of a list of actions
abbrev pub no_action : OrderedAction
no_action = record { resource = 0; instance = 0; kind = Apply; replaces = false }

-- the action at a place of a plan
abbrev pub action_at : List OrderedAction → ℕ → OrderedAction
action_at actions n = slice_index_or actions n no_action

-- the two as a pair, if the first is before the second
abbrev pub pair : OrderInputView → List OrderedAction → ℕ → ℕ → List (ℕ × ℕ)
pair t actions second first = if is_before t (action_at actions first) (action_at actions second) then (first, second) ∷ [] else []

-- the pairs of an action and each that is before it
abbrev pub pairs_into : OrderInputView → List OrderedAction → ℕ → List (ℕ × ℕ)
pairs_into t actions second = flat_map (pair t actions second) (range_with_len 0 (length actions))

-- All pairs of actions whose first is before the second. An action is named by its place in the plan.
abbrev pub pairs : OrderInputView → List OrderedAction → List (ℕ × ℕ)
pairs t actions = flat_map (pairs_into t actions) (range_with_len 0 (length actions))

-- No chain of pairs leads back: no action is before itself by any chain, and some rank rises along each pair. Only
-- actions are before actions.
pub record IsOrder (g : Digraph) : Type 0 where
  pub acyclic : IsAcyclic g
  pub ranked : Ranked (predecessors_of g)
  pub below : StaysBelow g.nodes (predecessors_of g)
