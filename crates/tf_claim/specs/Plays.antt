-- What each step on the shared claims ensures for its seat: the view afterwards, with which the rule holds, and what
-- was true in the state that the step met, in which the seat had its view from before.
use Rattle.std.specs.Prelude.{◌≡◌, ◌<◌, ◌==◌, ◌⊎◌, ℕ, MatchBool, if◌then◌else◌}
use Rattle.atomic_table.specs.Table.{Me, Step}
use Rattle.tf_graph.specs.Digraph.{Digraph, source, target}
use Rattle.tf_claim.specs.declared.seat.View.{View}
use Rattle.tf_claim.specs.Views.{times, saw, saw_through, knew, took, ended, went, OwnsWayTo}
use Rattle.tf_claim.specs.Claims.{Stands, free, done}
use Rattle.tf_claim.specs.Moments.{WasDone, WasNotDone, WasFree, WasNotFree, WasHeldBack, WasLetThrough}

-- a seat of the table: its view, and the slots that it holds (the claims' table has no slots)
abbrev pub Sat : Type 0
Sat = Me (Unit {0}) View

-- the seat has this view afterwards, and its part is unchanged
abbrev pub Leaves : Digraph → Sat → View → Sat → Type 0
Leaves g before w after =
    (after.0 ≡ w) × (after.1 ≡ before.1) × Stands g w × (after.0.part ≡ before.0.part)

-- the word of an action was read
abbrev pub Looks : Digraph → ℕ → Step (Unit {0}) → Sat → ℕ → Sat → Type 0
Looks g n st before found after =
    Leaves g before (if found == done then saw n before.0 else before.0) after
    × ((0 < times n before.0.seen) ⊎ (0 < times n before.0.finished) → found ≡ done)
    × MatchBool (found == done) (WasDone g n before.0) (WasNotDone g n before.0)

-- the count of an action was read
abbrev pub Counts : Digraph → ℕ → Step (Unit {0}) → Sat → ℕ → Sat → Type 0
Counts g n st before found after =
    Leaves g before (if found == 0 then saw_through g n before.0 else before.0) after
    × (OwnsWayTo g n before.0 → found ≡ 0)
    × MatchBool (found == 0) (WasLetThrough g n before.0) (WasHeldBack g n before.0)

-- one exchange was tried, from free to taken
abbrev pub Takes : Digraph → ℕ → Step (Unit {0}) → Sat → ℕ → Sat → Type 0
Takes g n st before found after =
    Leaves g before (if found == free then took n before.0 else knew n before.0) after
    × (found ≡ free → times n before.0.finished ≡ 0)
    × MatchBool (found == free) (WasFree g n before.0) (WasNotFree g n before.0)

-- an action was stored as done
abbrev pub Ends : Digraph → ℕ → Step (Unit {0}) → Sat → ℕ → Sat → Type 0
Ends g n st before found after =
    Leaves g before (ended n before.0) after
    × ((e : ℕ) → source g e ≡ n → times e before.0.let_go ≡ 0)

-- The step took one from the count of the action that an edge leads into. If the count was 1, each edge into that
-- action was released in the state that the step left. Otherwise one of them was not yet released.
abbrev pub Releases : Digraph → ℕ → Step (Unit {0}) → Sat → ℕ → Sat → Type 0
Releases g e st before found after =
    Leaves g before (went e before.0) after
    × MatchBool (found == 1) (WasLetThrough g (target g e) (went e before.0)) (WasHeldBack g (target g e) (went e before.0))

-- some word was read
abbrev pub Rests : Digraph → Step (Unit {0}) → Sat → ℕ → Sat → Type 0
Rests g st before found after = Leaves g before before.0 after
