-- What needed what when it was made, by the dependencies that a state has stored.
use Rattle.std.specs.Prelude.{◌≡◌, ◌↔◌, ℕ, true, List, map, Contains}
use Rattle.tf_graph.specs.Closure.{IsClosure, reaches}
use Rattle.tf_graph.specs.Path.{Path}
use Rattle.tf_plan_order.specs.declared.stored.StoredDependencies.{StoredDependencies}

-- an object of a is stored to depend on b; each pair has a resource and what it depends on
abbrev pub DependsOn : List (ℕ × ℕ) → ℕ → ℕ → Type 0
DependsOn dependencies a b = Contains dependencies (a, b)

-- a needed b if one or more stored dependencies lead from a to b
abbrev pub Needed : List (ℕ × ℕ) → ℕ → ℕ → Type 0
Needed dependencies a b = Path (DependsOn dependencies) a b

-- each pair the other way round, from what was needed to what needed it
abbrev pub turned : List (ℕ × ℕ) → List (ℕ × ℕ)
turned pairs = map (λ pair. (pair.1, pair.0)) pairs

-- a graph of the reversed dependencies, and a table of exactly what needed what
pub record IsStored (resources : ℕ) (dependencies : List (ℕ × ℕ)) (stored : StoredDependencies) : Type 0 where
  pub nodes : stored.graph.nodes ≡ resources
  pub edges : stored.graph.edges ≡ turned dependencies
  pub closure : IsClosure stored.graph stored.table
  pub needed : (a b : ℕ) → (reaches stored.table b a ≡ true) ↔ Needed dependencies a b
