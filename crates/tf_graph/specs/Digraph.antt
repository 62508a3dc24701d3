-- Finite directed graphs: the number of nodes, and the list of the edges. An edge `(a, b)` says that a is before b.
use Rattle.std.specs.Prelude.{◌≤◌, ◌<◌, ◌==◌, ◌⊎◌, ℕ, List, filter, map, length, slice_index_or}

pub record Digraph : Type 0 where
  pub nodes : ℕ
  pub edges : List (ℕ × ℕ)

-- the edge at an index of the list, and `(0, 0)` past the end
abbrev pub edge_at : List (ℕ × ℕ) → ℕ → ℕ × ℕ
edge_at edges i = slice_index_or edges i (0, 0)

-- the node that an edge leaves
abbrev pub source : Digraph → ℕ → ℕ
source g i = (edge_at g.edges i).0

-- the node that an edge enters
abbrev pub target : Digraph → ℕ → ℕ
target g i = (edge_at g.edges i).1

-- both ends of each edge are nodes
pub record IsWithin (nodes : ℕ) (edges : List (ℕ × ℕ)) : Type 0 where
  pub source_below : (i : ℕ) → i < length edges → (edge_at edges i).0 < nodes
  pub target_below : (i : ℕ) → i < length edges → (edge_at edges i).1 < nodes

-- some edge has an end that is no node
abbrev pub HasOutside : ℕ → List (ℕ × ℕ) → Type 0
HasOutside nodes edges =
    (i : ℕ) × (i < length edges) × ((nodes ≤ (edge_at edges i).0) ⊎ (nodes ≤ (edge_at edges i).1))

-- the sources of the edges into a node, in the order of the list, one for each edge
abbrev pub sources_into : List (ℕ × ℕ) → ℕ → List ℕ
sources_into edges n = map (λ e. e.0) (filter (λ e. e.1 == n) edges)

-- the targets of the edges out of a node, in the order of the list, one for each edge
abbrev pub targets_from : List (ℕ × ℕ) → ℕ → List ℕ
targets_from edges n = map (λ e. e.1) (filter (λ e. e.0 == n) edges)

-- the nodes directly before a node
abbrev pub predecessors_of : Digraph → ℕ → List ℕ
predecessors_of g n = sources_into g.edges n

-- the nodes directly after a node
abbrev pub successors_of : Digraph → ℕ → List ℕ
successors_of g n = targets_from g.edges n
