-- Laws of all values.
use Rattle.std.specs.Prelude.{ℕ, List, ◌≡◌, ◌↔◌, true, Some}
use Rattle.tf_value_data.specs.Tree.{Tree, Entries, IsHeld, IsSorted, get, put, same}
use Rattle.tf_value_data.specs.Known.{known}
use Rattle.tf_value_data.specs.Refinement.{Refines, refined}
use Rattle.tf_value_data.specs.Place.{Place, with_part}
use Rattle.tf_value_data.specs.Measure.{IsWithinLimits, IsTooLarge, is_within, weight, depth}
use Rattle.tf_value_data.specs.Nulls.{with_nulls}
use Rattle.tf_value_data.specs.Scalar.{scalar_text}
use Rattle.tf_value_data.specs.Sets.{has_no_set, with_lists}
use Rattle.tf_value_data.specs.Stored.{IsTable, MayBeStored, may_be_planned, may_be_stored}

-- Each value refines to itself.
abbrev pub RefinementIsReflexive : Type 0
RefinementIsReflexive = (t : Tree) → Refines t t

-- If one value refines to a second one and that one to a third one, the first refines to the third.
abbrev pub RefinementIsTransitive : Type 0
RefinementIsTransitive = (t u v : Tree) → Refines t u → Refines u v → Refines t v

-- Two values that refine to each other are equal.
abbrev pub RefinementIsAntisymmetric : Type 0
RefinementIsAntisymmetric = (t u : Tree) → Refines t u → Refines u t → t ≡ u

-- A known value refines to itself alone.
abbrev pub KnownStays : Type 0
KnownStays = (t u : Tree) → known t ≡ true → Refines t u → t ≡ u

-- `refined` decides whether one value refines to another.
abbrev pub RefinedIsRefinement : Type 0
RefinedIsRefinement = (t u : Tree) → (refined t u ≡ true) ↔ Refines t u

-- If one value refines to another, a whole with the one as a part refines to that whole with the other there, at any
-- place.
abbrev pub PartsRefine : Type 0
PartsRefine = (p : Place) (t u : Tree) → Refines t u → Refines (with_part p t) (with_part p u)

-- `same` decides whether two values are equal.
abbrev pub SameIsEquality : Type 0
SameIsEquality = (t u : Tree) → (same t u ≡ true) ↔ (t ≡ u)

-- A value is within the limits or too large.
abbrev pub LimitsDecide : Type 0
LimitsDecide = (t : Tree) → IsTooLarge t ↔ (¬ IsWithinLimits t)

-- A value that is put at a key is found there.
abbrev pub PutIsFound : Type 0
PutIsFound = (k : List ℕ) (t : Tree) (es : Entries) → get k (put k t es) ≡ Some t

-- A put at a key doesn't change the values at other keys.
abbrev pub PutLeavesOthers : Type 0
PutLeavesOthers = (k l : List ℕ) (t : Tree) (es : Entries) → (¬ (l ≡ k)) → get l (put k t es) ≡ get l es

-- With null for its unknown parts, a value is known, and a known value stays as it is.
abbrev pub NullsAreKnown : Type 0
NullsAreKnown = (t : Tree) → known (with_nulls t) ≡ true

abbrev pub KnownKeepsItself : Type 0
KnownKeepsItself = (t : Tree) → known t ≡ true → with_nulls t ≡ t

-- A value refines to itself with null for its unknown parts.
abbrev pub NullsRefine : Type 0
NullsRefine = (t : Tree) → Refines t (with_nulls t)

-- Null for unknown parts changes neither weight nor depth.
abbrev pub NullsMeasureTheSame : Type 0
NullsMeasureTheSame = (t : Tree) → (weight (with_nulls t) ≡ weight t) × (depth (with_nulls t) ≡ depth t)

-- A value that may be planned may be stored with null for its unknown parts.
abbrev pub NullsMayBeStored : Type 0
NullsMayBeStored = (t : Tree) → IsHeld t → IsSorted t → may_be_planned t ≡ true → MayBeStored (with_nulls t)

-- With a list for each set, a value has no set, and a value without one stays as it is.
abbrev pub ListsAreNoSets : Type 0
ListsAreNoSets = (t : Tree) → has_no_set (with_lists t) ≡ true

abbrev pub NoSetKeepsItself : Type 0
NoSetKeepsItself = (t : Tree) → has_no_set t ≡ true → with_lists t ≡ t

-- With a list for each set, a value is known exactly if it was known before.
abbrev pub ListsAreAsKnown : Type 0
ListsAreAsKnown = (t : Tree) → known (with_lists t) ≡ known t

-- If a value refines to another one, it still does if both have a list for each set.
abbrev pub ListsRefine : Type 0
ListsRefine = (t u : Tree) → Refines t u → Refines (with_lists t) (with_lists u)

-- A list in place of a set changes neither weight nor depth.
abbrev pub ListsMeasureTheSame : Type 0
ListsMeasureTheSame = (t : Tree) → (weight (with_lists t) ≡ weight t) × (depth (with_lists t) ≡ depth t)

-- A value that is known and within the limits may be stored with a list for each set.
abbrev pub ListsMayBeStored : Type 0
ListsMayBeStored = (t : Tree) → IsHeld t → IsSorted t → known t ≡ true → IsWithinLimits t → MayBeStored (with_lists t)

-- A value within the limits may be planned with a list for each set.
abbrev pub ListsMayBePlanned : Type 0
ListsMayBePlanned = (t : Tree) → is_within t ≡ true → may_be_planned (with_lists t) ≡ true

-- `may_be_stored` decides whether a tree that a `Value` can hold may be stored.
abbrev pub StoredIsTested : Type 0
StoredIsTested = (t : Tree) → IsHeld t → IsSorted t → (may_be_stored t ≡ true) ↔ MayBeStored t

-- A table with one more value that may be stored is a table.
abbrev pub PutKeepsTable : Type 0
PutKeepsTable = (k : List ℕ) (t : Tree) (es : Entries) → MayBeStored t → IsTable es → IsTable (put k t es)

-- A value with a scalar text is known.
abbrev pub ScalarIsKnown : Type 0
ScalarIsKnown = (t : Tree) (s : List ℕ) → scalar_text t ≡ Some s → known t ≡ true
