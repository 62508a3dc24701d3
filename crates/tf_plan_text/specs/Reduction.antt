-- The edges of a graph that don't follow from others.
use Rattle.std.specs.Prelude.{◌≡◌, ◌≢◌, ◌↔◌, ℕ, Bool, true, not, filter, List, Contains}
use Rattle.tf_graph.specs.Digraph.{Digraph}
use Rattle.tf_graph.specs.Path.{Path, HasEdge, Reaches}

-- a path of two edges or more leads from a to b, so that an edge from a to b adds nothing
abbrev pub Follows : Digraph → ℕ → ℕ → Type 0
Follows g a b = (c : ℕ) × HasEdge g a c × Reaches g c b

-- The kept edges are exactly those edges of the graph that don't follow, in their order there. (The test says for any
-- two numbers whether a path of two edges or more leads from the one to the other.)
pub record IsReduction (g : Digraph) (edges : List (ℕ × ℕ)) : Type 0 where
  pub follows : ℕ × ℕ → Bool
  pub tested : (a b : ℕ) → (follows (a, b) ≡ true) ↔ Follows g a b
  pub kept : edges ≡ filter (λ e. not (follows e)) g.edges

-- one of these edges leads from a to b
abbrev pub IsAmong : List (ℕ × ℕ) → ℕ → ℕ → Type 0
IsAmong edges a b = Contains edges (a, b)

-- by the kept edges a node reaches exactly what it reaches in the graph: both have the same closure
abbrev pub LeadsAlike : Digraph → List (ℕ × ℕ) → Type 0
LeadsAlike g kept = (a b : ℕ) → Path (IsAmong kept) a b ↔ Reaches g a b

-- one of these edges, other than a given one, leads from a to b
abbrev pub IsAmongOthers : List (ℕ × ℕ) → ℕ × ℕ → ℕ → ℕ → Type 0
IsAmongOthers edges given a b = let edge : ℕ × ℕ = (a, b) in Contains edges edge × (edge ≢ given)

-- no edge follows from the others: without it no path leads from its source to its target
abbrev pub NoneFollows : List (ℕ × ℕ) → Type 0
NoneFollows edges = (a b : ℕ) → Contains edges (a, b) → Path (IsAmongOthers edges (a, b)) a b → ⊥
