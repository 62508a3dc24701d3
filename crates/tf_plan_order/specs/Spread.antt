-- A search for late resources, while it runs.
use Rattle.std.specs.Prelude.{◌≡◌, ◌⊎◌, ℕ, Bool, true, List, length, Contains}
use Rattle.tf_graph.specs.NodeSet.{has}
use Rattle.tf_graph.specs.Search.{missing}

-- how many resources haven't been found
abbrev pub unfound : List Bool → ℕ
unfound late = missing late (length late)

-- A search has come further: only what was reached is late in addition, and it is pending.
pub record IsFurther (late more : List Bool) (pending due : List ℕ) (Reached : ℕ → Type 0) : Type 0 where
  pub same_length : length more ≡ length late
  pub kept : (n : ℕ) → has late n ≡ true → has more n ≡ true
  pub led : (n : ℕ) → has more n ≡ true → (has late n ≡ true) ⊎ Reached n
  pub waits : (n : ℕ) → Contains pending n → Contains due n
  pub fresh : (n : ℕ) → has more n ≡ true → (has late n ≡ true) ⊎ Contains due n
  pub known : (n : ℕ) → Contains due n → Contains pending n ⊎ (has more n ≡ true)
