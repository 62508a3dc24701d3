-- The rule in the words of the tally's table, and what a step does to the part that makes it.
use Rattle.std.specs.Prelude.{◌≡◌, ℕ}
use mathlib.Core.Option.{Option, none, some}
use Rattle.atomic_table.specs.Table.{State, Me, Step}
use Rattle.tf_tally.specs.declared.holding.Holding.{Holding}
use Rattle.tf_tally.specs.Holdings.{IsKept, IsAll, IsBalanced, added}

-- what the table keeps, whatever its word is
abbrev pub Holds : {E : Type 0} → ℕ → State E (Holding E) → Type 0
Holds whole s = IsKept whole s.views

-- a holding with the entry that a step says
abbrev pub with_said : {E : Type 0} → Option E → Holding E → Holding E
with_said none v = v
with_said (some entry) v = added entry v

-- the entry that the step says was added
abbrev pub Adds : {E : Type 0} → Step E → Me E (Holding E) → ℕ → Me E (Holding E) → Type 0
Adds st before found after = after ≡ (with_said st.said before.0, before.1)

-- nothing changed; where the holding has all parts, it is balanced
abbrev pub Audits : {E : Type 0} → Step E → Me E (Holding E) → ℕ → Me E (Holding E) → Type 0
Audits st before found after = (after ≡ before) × (IsAll before.0 → IsBalanced before.0)
