-- Which resources are late.
use Rattle.std.specs.Prelude.{◌≡◌, ◌↔◌, ◌⊎◌, ℕ, Bool, true, List}
use Rattle.tf_graph.specs.Digraph.{Digraph}
use Rattle.tf_graph.specs.NodeSet.{has}
use Rattle.tf_graph.specs.Path.{Path, Reaches}

-- A resource needs another by the configuration, or needed it when it was made. Both graphs lead from what is needed
-- to what needs it, by direct needs and by stored dependencies.
abbrev pub Leads : Digraph → Digraph → ℕ → ℕ → Type 0
Leads needs needed a b = Reaches needs b a ⊎ Reaches needed b a

-- A resource is late if it is marked, or if a marked one leads to it over both graphs together.
abbrev pub IsLate : Digraph → Digraph → List Bool → ℕ → Type 0
IsLate needs needed marked n = (m : ℕ) × (has marked m ≡ true) × ((m ≡ n) ⊎ Path (Leads needs needed) m n)

-- a mark for exactly the late resources
abbrev pub AreLate : Digraph → Digraph → List Bool → List Bool → Type 0
AreLate needs needed marked late = (n : ℕ) → (has late n ≡ true) ↔ IsLate needs needed marked n
