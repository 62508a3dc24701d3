-- What the rule of a tally says of a holding that has all parts, and what it is to be balanced.
use Rattle.std.specs.Prelude.{◌≡◌, ◌≢◌, ℕ, Bool, List, [], length}
use Rattle.std.specs.List.{count_by}
use mathlib.Core.Option.{some}
use lib.ListN.{get_elem?}
use Rattle.tf_tally.specs.declared.holding.Holding.{Holding}
use Rattle.tf_tally.specs.Holdings.{IsKept, IsBalanced}

-- A holding is balanced, and every other one has no part, and keeps and reports nothing.
pub record KnowsAll {E : Type 0} (views : List (Holding E)) (k : ℕ) (v : Holding E) : Type 0 where
  pub balanced : IsBalanced v
  pub others : (other : ℕ) (w : Holding E) → other ≢ k → get_elem? views other ≡ some w → (w.parts ≡ 0) × (w.kept ≡ []) × (w.reported ≡ [])

-- a holding with all parts knows all
abbrev pub AllKnow : Type 0 → Type 0
AllKnow E = (whole : ℕ) (views : List (Holding E)) (k : ℕ) (v : Holding E) → IsKept whole views → get_elem? views k ≡ some v → v.parts ≡ whole → KnowsAll views k v

-- as many entries are reported as are kept, in all and of those that pass a test
pub record Agrees {E : Type 0} (v : Holding E) : Type 0 where
  pub in_all : length v.reported ≡ length v.kept
  pub passing : (p : E → Bool) → count_by p v.reported ≡ count_by p v.kept

abbrev pub BalancedAgree : Type 0 → Type 0
BalancedAgree E = (v : Holding E) → IsBalanced v → Agrees v
