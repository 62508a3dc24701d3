-- Nodes removed one after another, with the number of remaining predecessors of each other node.
use Rattle.std.specs.Prelude.{◌≡◌, ◌<◌, ◌+◌, ◌⊎◌, ℕ, Bool, false, cond, eqb, List, [], ◌∷◌, length, slice_index, Contains}
use Rattle.tf_graph.specs.Digraph.{Digraph, predecessors_of}
use Rattle.tf_graph.specs.NodeSet.{has}
use Rattle.tf_graph.specs.Order.{IsInOrder}
use Rattle.tf_graph.specs.Strip.{IsOrdered}

-- how often a number occurs in a list
unfoldable pub times : ℕ → List ℕ → ℕ
times n [] = 0
times n (x ∷ xs) = cond (eqb x n) 1 0 + times n xs

-- how many nodes in a list are left, counted with repetition
unfoldable pub count_left : List Bool → List ℕ → ℕ
count_left left [] = 0
count_left left (x ∷ xs) = cond (has left x) 1 0 + count_left left xs

-- the sum of a list
unfoldable pub total : List ℕ → ℕ
total [] = 0
total (x ∷ xs) = x + total xs

-- a removal in progress: each count is the number of left nodes directly before, plus those still to be counted off.
-- The removed nodes are in order. The free nodes have count 0, and each node with count 0 is removed or free.
pub record IsRemoval (g : Digraph) (left : List Bool) (remaining free due : List ℕ) : Type 0 where
  pub left_length : length left ≡ g.nodes
  pub remaining_length : length remaining ≡ g.nodes
  pub counts : (s : ℕ) → slice_index remaining s ≡ count_left left (predecessors_of g s) + times s due
  pub gone : (n : ℕ) → n < g.nodes → has left n ≡ false → IsOrdered g n
  pub free_zero : (s : ℕ) → Contains free s → (s < g.nodes) × (slice_index remaining s ≡ 0)
  pub ready : (s : ℕ) → s < g.nodes → slice_index remaining s ≡ 0 → (has left s ≡ false) ⊎ Contains free s

-- the nodes removed so far are a list in order, which holds exactly those that are not left
pub record IsTaken (g : Digraph) (left : List Bool) (order : List ℕ) : Type 0 where
  pub in_order : IsInOrder (predecessors_of g) order
  pub gone : (n : ℕ) → n < g.nodes → has left n ≡ false → Contains order n
  pub taken : (n : ℕ) → Contains order n → (n < g.nodes) × (has left n ≡ false)
