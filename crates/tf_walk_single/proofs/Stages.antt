-- The stages of a book, as one action goes from free through taken to done.
use Rattle.std.proofs.Common.{◌≡◌, ◌<◌, ℕ, zero, suc, true, cond, eqb, List, [], ◌∷◌, length, get_or, set, map, refl, ap, arith}
use Rattle.std.specs.Prelude.{slice_set, sum_by}
use Rattle.std.proofs.lemmas.Bool.Decides.{nat_tests}
use Rattle.std.proofs.lemmas.List.Sums.{sum_by-set}
use Rattle.std.proofs.Math.ListN.{length-set}
use Rattle.tf_claim.specs.Ledger.{stage_in, is_free, is_taken}
use Rattle.tf_claim.specs.declared.book.Stage.{Stage}
use Rattle.tf_claim.specs.declared.book.Stage.TheVariants as stage
use Rattle.tf_graph.proofs.Rows.{get_or-set_test}

-- an action that was set to taken is taken
pub taken_there : (stages : List Stage) (n : ℕ) → n < length stages → is_taken (stage_in (slice_set stages n stage.Taken) n) ≡ true
taken_there stages n h =
    let same : eqb n n ≡ true = grind (arith, nat_tests) in
    rw (get_or-set_test stages n stage.Taken stage.Free n h, same) refl

abbrev free_count : Stage → ℕ
free_count s = cond (is_free s) 1 0

counted_free : (s : Stage) → is_free s ≡ true → free_count s ≡ suc 0
counted_free s e = rw e refl

-- and one is free less
pub fewer_free : (stages : List Stage) (n : ℕ) → n < length stages → is_free (stage_in stages n) ≡ true
    → sum_by (λ s. cond (is_free s) 1 0) (slice_set (slice_set stages n stage.Taken) n stage.Done) < sum_by (λ s. cond (is_free s) 1 0) stages
fewer_free stages n h free =
    let taken = slice_set stages n stage.Taken in
    let one = counted_free (get_or stages n stage.Free) free in
    let first = sum_by-set free_count stages n stage.Taken stage.Free h in
    let long : n < length taken = rw (length-set stages n stage.Taken) h in
    let second = sum_by-set free_count taken n stage.Done stage.Free long in
    omega (arith, one, first, second)

-- a write, seen in another way
pub map-set : {A B : Type 0} (f : A → B) (xs : List A) (n : ℕ) (x : A) → map f (set xs n x) ≡ set (map f xs) n (f x)
map-set f [] n x = refl
map-set f (y ∷ ys) zero x = refl
map-set f (y ∷ ys) (suc n) x = ap (λ zs. f y ∷ zs) (map-set f ys n x)
