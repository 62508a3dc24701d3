-- What is told, and how often, of the same outcomes, excuses and entries.
use Rattle.std.proofs.Common.{◌≡◌, ◌<◌, ℕ, zero, suc, Bool, true, All, List, [], ◌∷◌, length, Some, arith}
use Rattle.std.specs.Prelude.{is_some, nat_eq, slice_get}
use Rattle.std.proofs.lemmas.Bool.Decides.{nat_tests}
use Rattle.tf_claim.specs.Claims.{how_many}
use Rattle.tf_provider.specs.declared.journal.Entry.{Entry}
use Rattle.tf_walk_action.specs.Excuse.{excuse_of}
use Rattle.tf_walk_action.specs.declared.excuse.Excuse.{Excuse}
use Rattle.tf_walk_action.specs.declared.excuse.Outcome.{Outcome}
use Rattle.tf_walk_report.specs.Told.{is_during, verdict_of, verdict_told}

below : (outcomes : List Outcome) (b : Bool) (n : ℕ) → is_some (verdict_of (slice_get outcomes n) b) ≡ true → n < length outcomes
below [] b n is = absurd (cc)
below (o ∷ os) b zero is = omega arith
below (o ∷ os) b (suc n) is = let r = below os b n is in omega arith

-- what is told of is an action
pub told-below : (outcomes : List Outcome) (excused : List Excuse) (n : ℕ) → is_some (verdict_told outcomes excused n) ≡ true → n < length outcomes
told-below outcomes excused n is = below outcomes (is_during (excuse_of excused n)) n is

pub same_told : {outs outcomes : List Outcome} {exs excused : List Excuse} {ents entries : List Entry} → outs ≡ outcomes → exs ≡ excused → ents ≡ entries
    → All (λ e. verdict_told outcomes excused e.action ≡ Some e.verdict) entries → All (λ e. verdict_told outs exs e.action ≡ Some e.verdict) ents
same_told a b d h = rw (a, b, d) h

pub same_count : {outs outcomes : List Outcome} {exs excused : List Excuse} → outs ≡ outcomes → exs ≡ excused
    → (count : ℕ) → count ≡ how_many (λ n. is_some (verdict_told outs exs n)) (length outs) → count ≡ how_many (λ n. is_some (verdict_told outcomes excused n)) (length outcomes)
same_count a b count h = rw (← a, ← b) h

pub nat_eq-is : (a b : ℕ) → nat_eq a b ≡ true → a ≡ b
nat_eq-is a b same = grind (arith, nat_tests)

pub nat_eq-are : (a b : ℕ) → a ≡ b → nat_eq a b ≡ true
nat_eq-are a b same = grind (arith, nat_tests)
