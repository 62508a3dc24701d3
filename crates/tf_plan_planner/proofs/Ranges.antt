-- Numbers that stand in a range, in any order, are distinct.
use Rattle.std.proofs.Common.{◌≡◌, ◌<◌, ◌+◌, ℕ, zero, suc, Bool, true, false, cond, List, [], ◌∷◌, filter, arith}
use Rattle.std.proofs.lemmas.Bool.{both_ways, ne_eqb}
use Rattle.std.proofs.lemmas.Map.Keys.{IsDistinct-IsPermutation}
use Rattle.std.specs.Cmp.{nat_eq_equiv}
use Rattle.std.specs.List.{AllByRecursion, IsDistinct, range_with_len}
use Rattle.std.specs.List.Sorted.{IsPermutation}
use Rattle.std.specs.Prelude.{nat_eq}
use Rattle.tf_plan_planner.proofs.Distinct.{AreDistinct, all-contained}

distinct-from : {A : Type 0} (e : A → A → Bool) (itself : (x : A) → e x x ≡ true) (xs : List A) → IsDistinct e xs → AreDistinct xs
unfolding IsDistinct
distinct-from e itself [] d = tt
distinct-from e itself (x ∷ xs) d = (λ c. both_ways (e x x) (all-contained (λ y. e x y ≡ false) xs x d.0 c) (itself x), distinct-from e itself xs d.1)

all-filter : {A : Type 0} (P : A → Type 0) (p : A → Bool) (xs : List A) → AllByRecursion P xs → AllByRecursion P (filter p xs)
all-filter P p [] all = tt
all-filter P p (x ∷ xs) all = by_test (p x) (all-filter P p xs all.1)
  where
    by_test : (b : Bool) → AllByRecursion P (filter p xs) → AllByRecursion P (cond b (x ∷ filter p xs) (filter p xs))
    by_test true rest = (all.0, rest)
    by_test false rest = rest

behind : (x a n : ℕ) → x < a → AllByRecursion (λ y. nat_eq x y ≡ false) (range_with_len a n)
behind x a zero h = tt
behind x a (suc n) h = (ne_eqb x a (λ e. omega arith), behind x (a + 1) n (omega arith))

range-distinct : (p : ℕ → Bool) (a n : ℕ) → IsDistinct nat_eq (filter p (range_with_len a n))
unfolding IsDistinct
range-distinct p a zero = tt
range-distinct p a (suc n) = by_test (p a) (range-distinct p (a + 1) n)
  where
    rest : List ℕ
    rest = filter p (range_with_len (a + 1) n)

    by_test : (b : Bool) → IsDistinct nat_eq (filter p (range_with_len (a + 1) n)) → IsDistinct nat_eq (cond b (a ∷ filter p (range_with_len (a + 1) n)) (filter p (range_with_len (a + 1) n)))
    by_test true d = (all-filter (λ y. nat_eq a y ≡ false) p (range_with_len (a + 1) n) (behind a (a + 1) n (omega arith)), d)
    by_test false d = d

pub places-distinct : (p : ℕ → Bool) (n : ℕ) (places : List ℕ) → IsPermutation (filter p (range_with_len 0 n)) places → AreDistinct places
places-distinct p n places moved =
    distinct-from nat_eq nat_eq_equiv.refl places (IsDistinct-IsPermutation nat_eq nat_eq_equiv.symm (filter p (range_with_len 0 n)) places moved (range-distinct p 0 n))
