-- The order of a plan's actions.
use Rattle.std.specs.Prelude.{◌≡◌, ◌≤◌, ◌↔◌, ℕ, Bool, true, false, List, length, map, slice_index_or}
use Rattle.tf_plan_data.specs.Action.{ActionView}
use Rattle.tf_plan_data.specs.Fits.{is_apply}
use Rattle.tf_plan_data.specs.Precedence.{ordered}
use Rattle.tf_config_data.specs.Names.{NameView}
use Rattle.tf_graph.specs.Closure.{reaches}
use Rattle.tf_graph.specs.Digraph.{Digraph}
use Rattle.tf_config_names.specs.Needs.{IsDependence, needs_in}
use Rattle.tf_config_names.specs.declared.dependence.Dependence.{Dependence}
use Rattle.tf_plan_order.specs.Late.{IsLate}
use Rattle.tf_plan_order.specs.Order.{pairs}
use Rattle.tf_plan_order.specs.Stored.{Needed, turned}
use Rattle.tf_plan_order.specs.OrderInput.{OrderInputView}
use Rattle.tf_plan_order.specs.declared.stored.StoredDependencies.{StoredDependencies}
use Rattle.tf_plan_order.specs.Dependencies.{dependencies}
use Rattle.tf_plan_order.specs.Marks.{is_marked}
use Rattle.tf_plan_order.specs.ResourceIndex.{ResourceRefView, numbered}
use Rattle.tf_state_data.specs.Resource.{ResourceView}

-- the most pairs of actions, one before the other, that a plan may have
abbrev pub max_pairs : ℕ
max_pairs = 200000

-- the graph of what needed what by the dependencies that the state has stored, from what was needed to what needed it
abbrev pub stored_graph : List ResourceRefView → List ResourceView → Digraph
stored_graph all resources = record { nodes = length all; edges = turned (dependencies all resources) }

-- The relations of the resources of a configuration and a state together: which needs which by the configuration, as
-- its dependence says, which needed which by the dependencies that the state has stored, and which are late, by both
-- and by the marks of `create_before_destroy`.
pub record AreTied (names : List NameView) (resources : List ResourceView) (ties : OrderInputView) : Type 0 where
  pub dependence : Dependence
  pub is_dependence : IsDependence names dependence
  pub needs : ties.needs ≡ needs_in dependence
  pub needed : (a b : ℕ) → (ties.needed a b ≡ true) ↔ Needed (dependencies (numbered names resources) resources) a b
  pub late : (n : ℕ) → (ties.late n ≡ true) ↔ IsLate dependence.graph (stored_graph (numbered names resources) resources) (map is_marked (numbered names resources)) n

-- these relations, by a dependence, by the stored dependencies, and by a list of which resources are late
abbrev pub ties_by : Dependence → StoredDependencies → List Bool → OrderInputView
ties_by d stored late = record { needs = needs_in d; needed = λ a b. reaches stored.table b a; late = λ n. slice_index_or late n false }

-- the relations by the configuration alone: nothing was needed, and nothing is late
abbrev pub by_needs : (ℕ → ℕ → Bool) → OrderInputView
by_needs needs = record { needs = needs; needed = λ a b. false; late = λ n. false }

-- an action creates or updates an object
abbrev pub is_applied : ActionView → Bool
is_applied a = is_apply a.step

-- the pairs of actions whose first is before the second
abbrev pub action_pairs : OrderInputView → List ActionView → List (ℕ × ℕ)
action_pairs ties actions = pairs ties (map ordered actions)

-- The order of these actions: a node for each, and an edge for each pair whose first is before the second, by the
-- relations of their resources.
pub record IsOrdered (names : List NameView) (resources : List ResourceView) (needs : ℕ → ℕ → Bool) (late : ℕ → Bool) (actions : List ActionView) (order : Digraph) : Type 0 where
  pub needed : ℕ → ℕ → Bool
  pub tied : AreTied names resources (record { needs = needs; needed = needed; late = late })
  pub nodes : order.nodes ≡ length actions
  pub edges : order.edges ≡ action_pairs (record { needs = needs; needed = needed; late = late }) actions
  pub few : length order.edges ≤ max_pairs
