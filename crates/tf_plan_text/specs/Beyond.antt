-- The nodes that are two edges or more away, by a set for each node.
use Rattle.std.specs.Prelude.{ℕ, Bool, List}
use Rattle.std.specs.List.{list_any}
use Rattle.tf_graph.specs.Digraph.{Digraph, successors_of}
use Rattle.tf_graph.specs.NodeSet.{has}
use Rattle.tf_graph.specs.Search.{row_of}

-- the set of some successor of a has b
abbrev pub is_beyond : List (List Bool) → Digraph → ℕ → ℕ → Bool
is_beyond rows g a b = list_any (λ c. has (row_of rows c) b) (successors_of g a)

-- the set of an edge's source has its target
abbrev pub leads_beyond : List (List Bool) → ℕ × ℕ → Bool
leads_beyond sets e = has (row_of sets e.0) e.1
