-- What the rule implies for several seats at once.
use Rattle.std.specs.Prelude.{◌≡◌, ◌≢◌, ◌<◌, ◌≤◌, ◌+◌, ◌⊎◌, ◌↔◌, ℕ, suc, List}
use mathlib.Core.Option.{some}
use lib.ListN.{get_elem?}
use Rattle.tf_graph.specs.Digraph.{Digraph, source}
use Rattle.tf_graph.specs.Path.{Reaches}
use Rattle.tf_claim.specs.declared.seat.View.{View}
use Rattle.tf_claim.specs.Views.{times, nothing, halved, split_off, both, part_in, IsSole, OwnsWayTo}
use Rattle.tf_claim.specs.Claims.{IsKept, Stands, free, done, total, releases_of}
use Rattle.tf_claim.specs.Moments.{WasDone, WasNotDone, WasFree, WasNotFree, WasHeldBack, WasLetThrough, IsHeldBack}

-- two different seats have these views in a state that keeps the rule
pub record AreTwo (g : Digraph) (stage count : ℕ → ℕ) (views : List View) (v w : View) : Type 0 where
  pub first : ℕ
  pub second : ℕ
  pub apart : first ≢ second
  pub rule : IsKept g stage count views
  pub first_at : get_elem? views first ≡ some v
  pub second_at : get_elem? views second ≡ some w

-- if one of two seats has claimed an action, the other hasn't
abbrev pub ClaimsAreApart : Type 0
ClaimsAreApart =
    (g : Digraph) (stage count : ℕ → ℕ) (views : List View) (v w : View) → AreTwo g stage count views v w
    → (n : ℕ) → 0 < times n v.claimed → times n w.claimed ≡ 0

-- if one of two seats has finished an action, the other has neither claimed nor finished it
abbrev pub EndsAreApart : Type 0
EndsAreApart =
    (g : Digraph) (stage count : ℕ → ℕ) (views : List View) (v w : View) → AreTwo g stage count views v w
    → (n : ℕ) → 0 < times n v.finished → (times n w.claimed ≡ 0) × (times n w.finished ≡ 0)

-- if one of two seats has released an edge, the other hasn't
abbrev pub ReleasesAreApart : Type 0
ReleasesAreApart =
    (g : Digraph) (stage count : ℕ → ℕ) (views : List View) (v w : View) → AreTwo g stage count views v w
    → (e : ℕ) → 0 < times e v.let_go → times e w.let_go ≡ 0

-- A seat has claimed and finished each action and released each edge at most once. It claimed what it finished, and
-- it finished the source of each edge that it released.
pub record IsOnce (g : Digraph) (v : View) : Type 0 where
  pub claimed : (n : ℕ) → times n v.claimed ≤ 1
  pub finished : (n : ℕ) → times n v.finished ≤ times n v.claimed
  pub let_go : (e : ℕ) → times e v.let_go ≤ times (source g e) v.finished

abbrev pub SeatsActOnce : Type 0
SeatsActOnce = (g : Digraph) (v : View) → Stands g v → IsOnce g v

-- An action that a seat has seen done or has finished is done, and so is every action that reaches it by edges.
abbrev pub SeenIsDone : Type 0
SeenIsDone =
    (g : Digraph) (stage count : ℕ → ℕ) (views : List View) (k : ℕ) (v : View)
    → IsKept g stage count views → get_elem? views k ≡ some v
    → (n : ℕ) → (0 < times n v.seen) ⊎ (0 < times n v.finished)
    → (stage n ≡ done) × ((m : ℕ) → Reaches g m n → stage m ≡ done)

-- An action that a seat has claimed, or knows to be taken or done, isn't free, and every action that reaches it by
-- edges is done.
abbrev pub BeforeClaimedIsDone : Type 0
BeforeClaimedIsDone =
    (g : Digraph) (stage count : ℕ → ℕ) (views : List View) (k : ℕ) (v : View)
    → IsKept g stage count views → get_elem? views k ≡ some v
    → (n : ℕ) → (0 < times n v.claimed) ⊎ (0 < times n v.known)
    → (free < stage n) × ((m : ℕ) → Reaches g m n → stage m ≡ done)

-- some seat has claimed an action, once
pub record IsClaimedBySome (n : ℕ) (views : List View) : Type 0 where
  pub seat : ℕ
  pub view : View
  pub at : get_elem? views seat ≡ some view
  pub once : times n view.claimed ≡ 1

-- some seat has claimed each action that isn't free
abbrev pub TakenIsClaimed : Type 0
TakenIsClaimed =
    (g : Digraph) (stage count : ℕ → ℕ) (views : List View) → IsKept g stage count views
    → (n : ℕ) → free < stage n → IsClaimedBySome n views

-- an action is free while no seat has released some edge into it
abbrev pub HeldBackIsFree : Type 0
HeldBackIsFree =
    (g : Digraph) (stage count : ℕ → ℕ) (views : List View) → IsKept g stage count views
    → (n : ℕ) → IsHeldBack g n views → stage n ≡ free

-- Two seats whose lists were joined have claimed or finished no action, and released no edge, in common.
pub record AreApart (v w : View) : Type 0 where
  pub claimed : (n : ℕ) → 0 < times n v.claimed → times n w.claimed ≡ 0
  pub finished : (n : ℕ) → 0 < times n v.finished → times n w.finished ≡ 0
  pub let_go : (e : ℕ) → 0 < times e v.let_go → times e w.let_go ≡ 0

abbrev pub JoinedAreApart : Type 0
JoinedAreApart = (g : Digraph) (v w : View) → Stands g (both v w) → AreApart v w

-- Every other view is empty, and this one records the stage of each action and the release of each edge.
pub record IsAllOf (stage : ℕ → ℕ) (views : List View) (seat : ℕ) (v : View) : Type 0 where
  pub others : (other : ℕ) (w : View) → other ≢ seat → get_elem? views other ≡ some w → w ≡ nothing
  pub free : (n : ℕ) → (stage n ≡ free) ↔ (times n v.claimed ≡ 0)
  pub done : (n : ℕ) → (stage n ≡ done) ↔ (0 < times n v.finished)
  pub let_go : (e : ℕ) → total (releases_of e) views ≡ times e v.let_go

-- if a seat's part is the whole, its view records all that was ever done
abbrev pub SoleIsAll : Type 0
SoleIsAll =
    (g : Digraph) (stage count : ℕ → ℕ) (views : List View) (k : ℕ) (v : View)
    → IsKept g stage count views → get_elem? views k ≡ some v → IsSole v → IsAllOf stage views k v

-- What was true of an action, in a state where a seat's part was the whole, follows from the seat's own lists.
pub record IsKnown (g : Digraph) (v : View) : Type 0 where
  pub done : (n : ℕ) → WasDone g n v → 0 < times n v.finished
  pub not_done : (n : ℕ) → WasNotDone g n v → times n v.finished ≡ 0
  pub free : (n : ℕ) → WasFree g n v → times n v.claimed ≡ 0
  pub not_free : (n : ℕ) → WasNotFree g n v → 0 < times n v.claimed
  pub let_through : (n : ℕ) → WasLetThrough g n v → OwnsWayTo g n v
  pub held_back : (n : ℕ) → WasHeldBack g n v → OwnsWayTo g n v → ⊥

-- so a seat whose part is the whole determines each answer
abbrev pub SoleKnows : Type 0
SoleKnows = (g : Digraph) (v : View) → IsSole v → IsKnown g v

-- After a split, each of the two seats has as many pieces of half the size as the one had before. After a join, the
-- seat has the parts of both.
pub record PartsOf (v w : View) (scale : ℕ) : Type 0 where
  pub left : part_in (suc scale) (halved v).part ≡ part_in scale v.part
  pub right : part_in (suc scale) (split_off v).part ≡ part_in scale v.part
  pub joined : part_in scale (both v w).part ≡ part_in scale v.part + part_in scale w.part

abbrev pub PartsAddUp : Type 0
PartsAddUp = (v w : View) (scale : ℕ) → PartsOf v w scale
