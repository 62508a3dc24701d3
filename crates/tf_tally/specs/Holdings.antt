-- What the parts of a tally have, and what is so of all holdings at every moment.
use Rattle.std.specs.Prelude.{◌≡◌, ◌<◌, ◌+◌, ◌-◌, ℕ, List, [], ◌∷◌, ◌++◌}
use Rattle.std.specs.List.{sum_by}
use mathlib.Core.Option.{some}
use lib.ListN.{get_elem?}
use Rattle.atomic_table.specs.Seated.{TableId}
use Rattle.tf_tally.specs.declared.holding.Holding.{Holding}

-- which tally a part is of, and what it has
pub record HeldPart (E : Type 0) : Type 0 where
  pub table : TableId
  pub holding : Holding E

abbrev pub holding : {E : Type 0} → ℕ → ℕ → List E → List E → Holding E
holding whole parts kept reported = record { whole = whole; parts = parts; kept = kept; reported = reported }

-- all parts, before an entry was added
abbrev pub first_holding : {E : Type 0} → ℕ → Holding E
first_holding whole = holding whole whole [] []

-- a holding that is left where a part was merged into another one: it has no part
abbrev pub blank : {E : Type 0} → Holding E
blank = holding 0 0 [] []

-- what stays where one part was split off: all that was kept, and nothing that was reported
abbrev pub staying : {E : Type 0} → Holding E → Holding E
staying v = holding v.whole (v.parts - 1) v.kept []

-- what the part has that was split off: all that was reported, and nothing that was kept
abbrev pub going : {E : Type 0} → Holding E → Holding E
going v = holding v.whole 1 [] v.reported

-- two holdings together
abbrev pub merged : {E : Type 0} → Holding E → Holding E → Holding E
merged v w = holding v.whole (v.parts + w.parts) (v.kept ++ w.kept) (v.reported ++ w.reported)

-- a holding after an entry was added
abbrev pub added : {E : Type 0} → E → Holding E → Holding E
added entry v = holding v.whole v.parts (v.kept ++ entry ∷ []) (v.reported ++ entry ∷ [])

-- the holding has all parts
abbrev pub IsAll : {E : Type 0} → Holding E → Type 0
IsAll v = v.parts ≡ v.whole

-- What is reported weighs what is kept, however entries are weighed. So each entry is reported as often as it is kept.
abbrev pub IsBalanced : {E : Type 0} → Holding E → Type 0
IsBalanced {E} v = (h : E → ℕ) → sum_by h v.reported ≡ sum_by h v.kept

-- what each holding has of something, added up
abbrev pub total : {E : Type 0} → (Holding E → ℕ) → List (Holding E) → ℕ
total f views = sum_by f views

-- how many parts a holding has, and what its entries weigh
abbrev pub parts_of : {E : Type 0} → Holding E → ℕ
parts_of v = v.parts

abbrev pub kept_weight : {E : Type 0} → (E → ℕ) → Holding E → ℕ
kept_weight h v = sum_by h v.kept

abbrev pub reported_weight : {E : Type 0} → (E → ℕ) → Holding E → ℕ
reported_weight h v = sum_by h v.reported

-- A holding with no part keeps and reports nothing, and one with a part knows how many there are in all.
pub record IsSound {E : Type 0} (whole : ℕ) (v : Holding E) : Type 0 where
  pub none : v.parts ≡ 0 → (v.kept ≡ []) × (v.reported ≡ [])
  pub some_part : 0 < v.parts → v.whole ≡ whole

-- The rule of a tally: no part is lost or made up, and what all holdings report weighs what all holdings keep. The holding of a
-- part that was dropped counts too.
pub record IsKept {E : Type 0} (whole : ℕ) (views : List (Holding E)) : Type 0 where
  pub parts : total parts_of views ≡ whole
  pub balanced : (h : E → ℕ) → total (reported_weight h) views ≡ total (kept_weight h) views
  pub each : (k : ℕ) (v : Holding E) → get_elem? views k ≡ some v → IsSound whole v
