-- A list of numbers for each node.
use Rattle.std.specs.Prelude.{◌≡◌, ◌≤◌, ℕ, List, [], map, length, slice_index_or, Vec}
use Rattle.tf_graph.specs.Digraph.{IsWithin, sources_into, targets_from}

-- the list of a node, and the empty one past the end
abbrev pub row : {A : Type 0} → List (Vec ℕ A) → ℕ → List ℕ
row lists n = slice_index_or (map (λ list. list.items) lists) n []

-- the stored lists of each node's neighbours are those of its edges
pub record IsBuilt {A : Type 0} (nodes : ℕ) (edges : List (ℕ × ℕ)) (before after : List (Vec ℕ A)) : Type 0 where
  pub few : nodes ≤ 8000
  pub within : IsWithin nodes edges
  pub before_length : length before ≡ nodes
  pub after_length : length after ≡ nodes
  pub before_rows : (n : ℕ) → row before n ≡ sources_into edges n
  pub after_rows : (n : ℕ) → row after n ≡ targets_from edges n
