-- Which node reaches which, by one edge or more.
use Rattle.std.specs.Prelude.{◌≡◌, ℕ, Bool, true, false, List, [], slice_index_or}
use Rattle.tf_graph.specs.Digraph.{Digraph, IsWithin, predecessors_of}
use Rattle.tf_graph.specs.Path.{HasEdge, Reaches}
use Rattle.tf_graph.specs.NodeSet.{has}
use Rattle.tf_graph.specs.Solutions.{Ranked}

-- for each node the set of the nodes that it reaches
pub record Table : Type 0 where
  pub nodes : ℕ
  pub rows : List (List Bool)

-- whether a reaches b; a number that is no node reaches nothing, and nothing reaches it
abbrev pub reaches : Table → ℕ → ℕ → Bool
reaches t a b = has (slice_index_or t.rows a []) b

-- the table says of each pair of numbers whether a path leads from the one to the other
pub record IsClosure (g : Digraph) (t : Table) : Type 0 where
  pub nodes : t.nodes ≡ g.nodes
  pub found : (a b : ℕ) → Reaches g a b → reaches t a b ≡ true
  pub led : (a b : ℕ) → reaches t a b ≡ true → Reaches g a b

-- a relation holds the edges and is transitive
pub record IsTransitiveOver (g : Digraph) (holds : ℕ → ℕ → Bool) : Type 0 where
  pub edges : (a b : ℕ) → HasEdge g a b → holds a b ≡ true
  pub transitive : (a b c : ℕ) → holds a b ≡ true → holds b c ≡ true → holds a c ≡ true

-- a closure holds the edges, is transitive, and holds nothing that some such relation does not hold
abbrev pub ClosureIsLeast : Type 0
ClosureIsLeast =
    (g : Digraph) (t : Table) → IsClosure g t
    → IsTransitiveOver g (reaches t)
    × ((holds : ℕ → ℕ → Bool) → IsTransitiveOver g holds → (a b : ℕ) → reaches t a b ≡ true → holds a b ≡ true)

-- if a reached node has an edge to another node, that one is reached too; if a node has an edge to one that reaches
-- another, it reaches that one too
abbrev pub ReachedIsClosed : Type 0
ReachedIsClosed =
    (g : Digraph) (t : Table) → IsClosure g t → (a b c : ℕ)
    → (reaches t a b ≡ true → HasEdge g b c → reaches t a c ≡ true)
    × (HasEdge g a b → reaches t b c ≡ true → reaches t a c ≡ true)

-- if no node reaches itself, the nodes directly before a node give a rank
abbrev pub AcyclicIsRanked : Type 0
AcyclicIsRanked =
    (g : Digraph) (t : Table) → IsWithin g.nodes g.edges → IsClosure g t
    → ((n : ℕ) → reaches t n n ≡ false) → Ranked (predecessors_of g)
