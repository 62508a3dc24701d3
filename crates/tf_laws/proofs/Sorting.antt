-- Each list of places has an order.
use Rattle.std.proofs.Common.{◌≡◌, ◌+◌, ℕ, zero, suc, Bool, true, false, cond, if◌then◌else◌, List, [], ◌∷◌, get_or, refl, subst, arith}
use Rattle.std.proofs.lemmas.List.Sorted.{IsPermutation-cons, IsPermutation-middle, IsPermutation-refl, IsPermutation-trans, ranks_by}
use Rattle.std.specs.Cmp.{IsStrictWeakOrder}
use Rattle.std.specs.Cmp.Lexicographic.{options_total}
use Rattle.std.specs.List.{AllByRecursion}
use Rattle.std.specs.List.Sorted.{IsPermutation, IsSortedBy}
use Rattle.tf_config_address.proofs.Totals.{addr_total}
use Rattle.tf_plan_order.specs.AddressOrder.{AreInAddressOrder, address_at, is_below, resource_places}
use Rattle.tf_plan_order.specs.ResourceIndex.{ResourceRefView}

abbrev insert_by : (ℕ → ℕ → Bool) → ℕ → List ℕ → List ℕ
insert_by lt x [] = x ∷ []
insert_by lt x (y ∷ ys) = if lt x y then x ∷ y ∷ ys else y ∷ insert_by lt x ys

abbrev sort_by : (ℕ → ℕ → Bool) → List ℕ → List ℕ
sort_by lt [] = []
sort_by lt (x ∷ xs) = insert_by lt x (sort_by lt xs)

-- none is below one before it
abbrev IsUp : (ℕ → ℕ → Bool) → List ℕ → Type 0
IsUp lt [] = Unit {0}
IsUp lt (x ∷ xs) = AllByRecursion (λ y. lt y x ≡ false) xs × IsUp lt xs

module _ (lt : ℕ → ℕ → Bool) (o : IsStrictWeakOrder lt) where
  inserted : (x : ℕ) (xs : List ℕ) → IsPermutation (x ∷ xs) (insert_by lt x xs)
  inserted x [] = IsPermutation-refl (x ∷ [])
  inserted x (y ∷ ys) = by_test (lt x y) (inserted x ys)
    where
      by_test : (b : Bool) → IsPermutation (x ∷ ys) (insert_by lt x ys) → IsPermutation (x ∷ y ∷ ys) (cond b (x ∷ y ∷ ys) (y ∷ insert_by lt x ys))
      by_test true again = IsPermutation-refl (x ∷ y ∷ ys)
      by_test false again =
          IsPermutation-trans (x ∷ y ∷ ys) (y ∷ x ∷ ys) (y ∷ insert_by lt x ys) (IsPermutation-middle (x ∷ []) y ys) (IsPermutation-cons y (x ∷ ys) (insert_by lt x ys) again)

  all_sorted : (xs : List ℕ) → IsPermutation xs (sort_by lt xs)
  all_sorted [] = IsPermutation-refl []
  all_sorted (x ∷ xs) = IsPermutation-trans (x ∷ xs) (x ∷ sort_by lt xs) (sort_by lt (x ∷ xs)) (IsPermutation-cons x xs (sort_by lt xs) (all_sorted xs)) (inserted x (sort_by lt xs))

  above : (x y : ℕ) (ys : List ℕ) → lt y x ≡ false → AllByRecursion (λ z. lt z y ≡ false) ys → AllByRecursion (λ z. lt z x ≡ false) ys
  above x y [] e h = tt
  above x y (z ∷ ys) e h = (o.chain z y x h.0 e, above x y ys e h.1)

  with_one : (P : ℕ → Type 0) (x : ℕ) (xs : List ℕ) → P x → AllByRecursion P xs → AllByRecursion P (insert_by lt x xs)
  with_one P x [] own all = (own, tt)
  with_one P x (y ∷ ys) own all = by_test (lt x y) (with_one P x ys own all.1)
    where
      by_test : (b : Bool) → AllByRecursion P (insert_by lt x ys) → AllByRecursion P (cond b (x ∷ y ∷ ys) (y ∷ insert_by lt x ys))
      by_test true again = (own, all)
      by_test false again = (all.0, again)

  insert_up : (x : ℕ) (xs : List ℕ) → IsUp lt xs → IsUp lt (insert_by lt x xs)
  insert_up x [] up = (tt, tt)
  insert_up x (y ∷ ys) up = by_test (lt x y) refl (insert_up x ys up.1)
    where
      by_test : (b : Bool) → lt x y ≡ b → IsUp lt (insert_by lt x ys) → IsUp lt (cond b (x ∷ y ∷ ys) (y ∷ insert_by lt x ys))
      by_test true e again = let back = o.one_way x y e in ((back, above x y ys back up.0), up)
      by_test false e again = (with_one (λ z. lt z y ≡ false) x ys e up.0, again)

  sort_up : (xs : List ℕ) → IsUp lt (sort_by lt xs)
  sort_up [] = tt
  sort_up (x ∷ xs) = insert_up x (sort_by lt xs) (sort_up xs)

  up_sorted : (xs : List ℕ) → IsUp lt xs → IsSortedBy lt xs
  up_sorted [] up k d low high = absurd (omega (arith, high))
  up_sorted (x ∷ []) up zero d low high = absurd (omega (arith, high))
  up_sorted (x ∷ y ∷ ys) up zero d low high = up.0.0
  up_sorted (x ∷ xs) up (suc k) d low high =
      let e : suc (k + 1) ≡ suc k + 1 = omega arith in
      subst (λ (j : ℕ). lt (get_or (x ∷ xs) j d) (get_or (x ∷ xs) (suc k) d) ≡ false) e (up_sorted xs up.1 k d (omega arith) (omega (arith, high)))

-- the places of resources can be put in address order
pub some_order : (all : List ResourceRefView) → (places : List ℕ) × AreInAddressOrder all places
some_order all =
    let o = ranks_by (options_total addr_total) (address_at all) in (
      sort_by (is_below all) (resource_places all),
      record {
        each = all_sorted (is_below all) o (resource_places all);
        sorted = up_sorted (is_below all) o (sort_by (is_below all) (resource_places all)) (sort_up (is_below all) o (resource_places all));
      },
    )
