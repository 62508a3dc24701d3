-- Paths of one step or more, along a relation on any type.
use Rattle.std.specs.Prelude.{ℕ, List, Contains}
use Rattle.tf_graph.specs.Digraph.{Digraph}

pub data Path {A : Type 0} (Direct : A → A → Type 0) : A → A → Type 0 where
  direct : (a b : A) → Direct a b → Path Direct a b
  onward : (a b c : A) → Direct a b → Path Direct b c → Path Direct a c

-- a is directly before b, if a function gives for each number the list of those directly before it
abbrev pub StandsBefore : (ℕ → List ℕ) → ℕ → ℕ → Type 0
StandsBefore before a b = Contains (before b) a

-- some edge leads from a to b
abbrev pub HasEdge : Digraph → ℕ → ℕ → Type 0
HasEdge g a b = Contains g.edges (a, b)

-- a reaches b by one edge or more
abbrev pub Reaches : Digraph → ℕ → ℕ → Type 0
Reaches g a b = Path (HasEdge g) a b

-- no node reaches itself
abbrev pub IsAcyclic : Digraph → Type 0
IsAcyclic g = (n : ℕ) → Reaches g n n → ⊥

-- a path, and a path from its end, joined to one path
pub joined : {A : Type 0} {Direct : A → A → Type 0} → (a b c : A) → Path Direct a b → Path Direct b c → Path Direct a c
joined _ _ c (direct a b d) q = onward a b c d q
joined _ _ d (onward a b c e p) q = onward a b d e (joined b c d p q)
