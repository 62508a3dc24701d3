-- The order of a journal: what it may hold, entry by entry.
use Rattle.std.specs.Prelude.{◌≢◌, ◌<◌, ◌++◌, ◌∷◌, [], ℕ, List, length, take, slice_index, Contains}
use Rattle.std.specs.List.{AllByRecursion}
use Rattle.tf_graph.specs.Path.{Path, StandsBefore}

-- no number is entered twice, and each is entered after all nodes directly before it
pub record IsInOrder (before : ℕ → List ℕ) (entries : List ℕ) : Type 0 where
  pub once : (i j : ℕ) → i < j → j < length entries → slice_index entries i ≢ slice_index entries j
  pub after : (i : ℕ) → i < length entries → AllByRecursion (λ a. Contains (take i entries) a) (before (slice_index entries i))

-- one more entry keeps the order if it is new and all nodes directly before it are entered
abbrev pub OrderGrows : Type 0
OrderGrows =
    (before : ℕ → List ℕ) (entries : List ℕ) (n : ℕ)
    → IsInOrder before entries → (Contains entries n → ⊥) → AllByRecursion (λ a. Contains entries a) (before n)
    → IsInOrder before (entries ++ n ∷ [])

-- a node that is before an entry by one step or more is entered before it
abbrev pub OrderFollowsPaths : Type 0
OrderFollowsPaths =
    (before : ℕ → List ℕ) (entries : List ℕ)
    → IsInOrder before entries → (a : ℕ) (i : ℕ) → i < length entries
    → Path (StandsBefore before) a (slice_index entries i) → Contains (take i entries) a
