-- What holds of a search for what is late, on its way.
use Rattle.std.specs.Prelude.{◌≡◌, ◌⊎◌, ℕ, Bool, true, List, Contains}
use Rattle.tf_graph.specs.Digraph.{Digraph}
use Rattle.tf_graph.specs.NodeSet.{has}
use Rattle.tf_graph.specs.Path.{HasEdge}
use Rattle.tf_plan_order.specs.Late.{IsLate}

-- What a resource needs directly, by both graphs, is late.
pub record IsLooked (needs needed : Digraph) (late : List Bool) (n : ℕ) : Type 0 where
  pub needs_late : (m : ℕ) → HasEdge needs m n → has late m ≡ true
  pub needed_late : (m : ℕ) → HasEdge needed m n → has late m ≡ true

-- Only late resources are found, the marked ones among them; each is pending, or what it needs directly is found.
pub record IsSpread (needs needed : Digraph) (marked late : List Bool) (pending : List ℕ) : Type 0 where
  pub led : (n : ℕ) → has late n ≡ true → IsLate needs needed marked n
  pub held : (n : ℕ) → has marked n ≡ true → has late n ≡ true
  pub due : (n : ℕ) → Contains pending n → has late n ≡ true
  pub spread : (n : ℕ) → has late n ≡ true → Contains pending n ⊎ IsLooked needs needed late n
