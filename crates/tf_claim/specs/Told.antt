-- What a step ensures for its seat at the shared claims.
use Rattle.std.specs.Prelude.{◌≡◌, ◌<◌, ◌⊎◌, ℕ, suc, List, [], ◌∷◌, Bool, Option, IsTrue, MatchBool, MatchOption, length}
use Rattle.tf_graph.specs.Digraph.{Digraph, source, target}
use Rattle.tf_claim.specs.Claims.{Stands}
use Rattle.tf_claim.specs.Moments.{WasDone, WasNotDone, WasFree, WasNotFree, WasHeldBack, WasLetThrough}
use Rattle.tf_claim.specs.declared.seat.View.{View}
use Rattle.tf_claim.specs.Views.{Seated, times, saw, saw_through, knew, took, ended, went, Owes, MayLetGo, OwnsWayTo}

-- a look at an action, and whether it was found done
pub record Sees (g : Digraph) (n : ℕ) (old new : Seated) (found : Bool) : Type 0 where
  pub table : new.table ≡ old.table
  pub seen : MatchBool found (new.view ≡ saw n old.view) (new.view ≡ old.view)
  pub again : (0 < times n old.view.seen) ⊎ (0 < times n old.view.finished) → IsTrue found
  pub moment : MatchBool found (WasDone g n old.view) (WasNotDone g n old.view)
  pub kept : Stands g new.view

-- an attempt to claim an action, and its permit if there is one
pub record Tries (g : Digraph) (n : ℕ) (old new : Seated) (permit : Option ℕ) : Type 0 where
  pub table : new.table ≡ old.table
  pub claimed : MatchOption permit
      ((new.view ≡ old.view) ⊎ (new.view ≡ knew n (saw_through g n old.view)))
      (λ p. (p ≡ n) × Owes g n new.view × (new.view ≡ took n (saw_through g n old.view)))
  pub own : OwnsWayTo g n old.view → MatchOption permit (new.view ≡ knew n (saw_through g n old.view)) (λ _. Unit {0})
  pub moment : MatchOption permit
      (((new.view ≡ old.view) × WasHeldBack g n old.view)
      ⊎ ((new.view ≡ knew n (saw_through g n old.view))
      × WasLetThrough g n old.view × WasNotFree g n (saw_through g n old.view)))
      (λ _. WasLetThrough g n old.view × WasFree g n (saw_through g n old.view))
  pub kept : Stands g new.view

-- the end of an action that the seat had claimed and not finished
pub record Finishes (g : Digraph) (n : ℕ) (old new : Seated) : Type 0 where
  pub table : new.table ≡ old.table
  pub ended_is : new.view ≡ ended n old.view
  pub free : (e : ℕ) → e < length g.edges → source g e ≡ n → MayLetGo g e new.view
  pub kept : Stands g new.view

-- the release of an edge out of an action that the seat finished, and whether it was the last unreleased edge into
-- its target
pub record LetsGo (g : Digraph) (e : ℕ) (old new : Seated) (last : Bool) : Type 0 where
  pub table : new.table ≡ old.table
  pub went_is : new.view ≡ went e old.view
  pub moment : MatchBool last (WasLetThrough g (target g e) new.view) (WasHeldBack g (target g e) new.view)
  pub kept : Stands g new.view

-- Edges are released one after another, beginning with this view. The count is how many of them were the last
-- unreleased edge into their target.
abbrev pub Frees : Digraph → List ℕ → View → ℕ → Type 0
Frees g [] v count = count ≡ 0
Frees g (e ∷ es) v count =
    (WasHeldBack g (target g e) (went e v) × Frees g es (went e v) count)
    ⊎ ((others : ℕ) × (count ≡ suc others) × WasLetThrough g (target g e) (went e v) × Frees g es (went e v) others)
