-- The nodes that no order reaches.
use Rattle.std.specs.Prelude.{◌≡◌, ◌<◌, ◌⊎◌, ◌↔◌, ℕ, Bool, true, false, List, length, Contains}
use Rattle.tf_graph.specs.Digraph.{Digraph, IsWithin, predecessors_of}
use Rattle.tf_graph.specs.Path.{Reaches, IsAcyclic}
use Rattle.tf_graph.specs.NodeSet.{has}
use Rattle.tf_graph.specs.Order.{IsInOrder}

-- some list in order holds the node
abbrev pub IsOrdered : Digraph → ℕ → Type 0
IsOrdered g n = (entries : List ℕ) × IsInOrder (predecessors_of g) entries × Contains entries n

-- the marks say of each node whether it is left, which means that no list in order holds it
pub record IsStripped (g : Digraph) (left : List Bool) : Type 0 where
  pub length : length left ≡ g.nodes
  pub gone : (n : ℕ) → n < g.nodes → has left n ≡ false → IsOrdered g n
  pub kept : (n : ℕ) → has left n ≡ true → IsOrdered g n → ⊥

-- a list in order that holds only nodes, and each node that some list in order holds
pub record IsWholeOrder (g : Digraph) (entries : List ℕ) : Type 0 where
  pub in_order : IsInOrder (predecessors_of g) entries
  pub within : (n : ℕ) → Contains entries n → n < g.nodes
  pub whole : (n : ℕ) → IsOrdered g n → n < g.nodes → Contains entries n

-- if no node reaches itself, such a list holds each node
abbrev pub WholeOrderHoldsAll : Type 0
WholeOrderHoldsAll =
    (g : Digraph) (entries : List ℕ) → IsWithin g.nodes g.edges → IsAcyclic g → IsWholeOrder g entries
    → (n : ℕ) → n < g.nodes → Contains entries n

-- no node is left exactly if no node reaches itself
abbrev pub StripIsEmpty : Type 0
StripIsEmpty =
    (g : Digraph) (left : List Bool) → IsWithin g.nodes g.edges → IsStripped g left
    → ((n : ℕ) → has left n ≡ false) ↔ IsAcyclic g

-- a node is left exactly if a node that reaches itself reaches it, or is it
abbrev pub LeftIsBehindCycle : Type 0
LeftIsBehindCycle =
    (g : Digraph) (left : List Bool) → IsWithin g.nodes g.edges → IsStripped g left
    → (n : ℕ) → (has left n ≡ true) ↔ ((c : ℕ) × Reaches g c c × (Reaches g c n ⊎ (c ≡ n)))
