-- What was true when a step was made: in the state that the step met, the rule held and the seat had its view.
use Rattle.std.specs.Prelude.{◌≡◌, ◌≢◌, ◌<◌, ℕ, List, length}
use mathlib.Core.Option.{some}
use lib.ListN.{get_elem?}
use Rattle.tf_graph.specs.Digraph.{Digraph, target}
use Rattle.tf_claim.specs.declared.seat.View.{View}
use Rattle.tf_claim.specs.Views.{nothing}
use Rattle.tf_claim.specs.Claims.{IsKept, Stands, free, done, total, releases_of, IsLetThrough}

-- the rule holds, one of the seats has this view, and the stages, counts and views satisfy `IsSo`
pub record StandsWhere (g : Digraph) (v : View) (IsSo : (ℕ → ℕ) → (ℕ → ℕ) → List View → Type 0) : Type 0 where
  pub stage : ℕ → ℕ
  pub count : ℕ → ℕ
  pub views : List View
  pub seat : ℕ
  pub rule : IsKept g stage count views
  pub at : get_elem? views seat ≡ some v
  pub so : IsSo stage count views

-- no seat has released some edge into an action
pub record IsHeldBack (g : Digraph) (n : ℕ) (views : List View) : Type 0 where
  pub edge : ℕ
  pub inside : edge < length g.edges
  pub into : target g edge ≡ n
  pub held : total (releases_of edge) views ≡ 0

-- the action was done
abbrev pub WasDone : Digraph → ℕ → View → Type 0
WasDone g n v = StandsWhere g v (λ stage count views. stage n ≡ done)

-- the action wasn't done
abbrev pub WasNotDone : Digraph → ℕ → View → Type 0
WasNotDone g n v = StandsWhere g v (λ stage count views. stage n ≢ done)

-- the action was free
abbrev pub WasFree : Digraph → ℕ → View → Type 0
WasFree g n v = StandsWhere g v (λ stage count views. stage n ≡ free)

-- the action was taken or done
abbrev pub WasNotFree : Digraph → ℕ → View → Type 0
WasNotFree g n v = StandsWhere g v (λ stage count views. free < stage n)

-- the action's count wasn't 0: no seat had released some edge into it
abbrev pub WasHeldBack : Digraph → ℕ → View → Type 0
WasHeldBack g n v = StandsWhere g v (λ stage count views. (0 < count n) × IsHeldBack g n views)

-- the action's count was 0: some seat had released each edge into it
abbrev pub WasLetThrough : Digraph → ℕ → View → Type 0
WasLetThrough g n v = StandsWhere g v (λ stage count views. (count n ≡ 0) × IsLetThrough g n views)

-- The seat has its view in some state that keeps the rule. In every such state all actions are free, and every other
-- view has seen and done nothing and has no part, so this seat is the only one.
pub record IsFresh (g : Digraph) (v : View) : Type 0 where
  pub stands : Stands g v
  pub free : (stage count : ℕ → ℕ) (views : List View) (seat : ℕ) → IsKept g stage count views → get_elem? views seat ≡ some v → (n : ℕ) → stage n ≡ free
  pub alone : (stage count : ℕ → ℕ) (views : List View) (seat : ℕ) → IsKept g stage count views → get_elem? views seat ≡ some v → (other : ℕ) (w : View) → other ≢ seat → get_elem? views other ≡ some w → w ≡ nothing
