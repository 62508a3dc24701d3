-- Two lists of different elements that rise by one test, with the same elements, are one.
use Rattle.std.proofs.Common.{◌≡◌, ◌<◌, ◌≤◌, ℕ, zero, suc, Bool, true, false, List, [], ◌∷◌, length, get_or, refl, sym, subst, arith, inl, inr}
use Rattle.std.proofs.lemmas.Bool.{both_ways}
use Rattle.std.specs.List.{AllByRecursion}
use Rattle.std.specs.Prelude.{Contains}
use Rattle.tf_graph.proofs.Edges.{contains_cases, contains_head, contains_tail}
use Rattle.tf_plan_planner.proofs.Distinct.{AreDistinct, all-contained}

-- each element is below those behind it
abbrev pub IsRising : {A : Type 0} → (A → A → Bool) → List A → Type 0
IsRising lt [] = Unit {0}
IsRising lt (x ∷ xs) = AllByRecursion (λ y. lt x y ≡ true) xs × IsRising lt xs

module _ {A : Type 0} (lt : A → A → Bool) (one_way : (x y : A) → lt x y ≡ true → lt y x ≡ false) where
  not_itself : (x y : A) → y ≡ x → lt x y ≡ true → ⊥
  not_itself x y same below = let own : lt x x ≡ true = subst (λ (z : A). lt x z ≡ true) same below in both_ways (lt x x) (one_way x x own) own

  -- the first elements are one
  heads : (x y : A) (xs ys : List A) → IsRising lt (x ∷ xs) → IsRising lt (y ∷ ys) → Contains (y ∷ ys) x → Contains (x ∷ xs) y → x ≡ y
  heads x y xs ys s t cx cy = elim (contains_cases x y ys cx) [
    | inl here ↦ sym here
    | inr rest ↦ elim (contains_cases y x xs cy) [
      | inl there ↦ there
      | inr later ↦ absurd (both_ways (lt y x) (one_way x y (all-contained (λ z. lt x z ≡ true) xs y s.0 later)) (all-contained (λ z. lt y z ≡ true) ys x t.0 rest))
    ]
  ]

  -- what stands behind it stands behind it in the other
  behind_too : (x : A) (xs ys : List A) → IsRising lt (x ∷ xs) → ((z : A) → Contains (x ∷ xs) z → Contains (x ∷ ys) z) → (z : A) → Contains xs z → Contains ys z
  behind_too x xs ys s f z c = elim (contains_cases z x ys (f z (contains_tail z x xs c))) [
    | inl here ↦ absurd (not_itself x z (sym here) (all-contained (λ w. lt x w ≡ true) xs z s.0 c))
    | inr rest ↦ rest
  ]

  nothing_in : (x : A) → Contains [] x → ⊥
  nothing_in x c = omega (arith, c.1)

  pub one_list : (xs ys : List A) → IsRising lt xs → IsRising lt ys → ((z : A) → Contains xs z → Contains ys z) → ((z : A) → Contains ys z → Contains xs z) → xs ≡ ys
  one_list [] [] s t f g = refl
  one_list [] (y ∷ ys) s t f g = absurd (nothing_in y (g y (contains_head y y ys refl)))
  one_list (x ∷ xs) [] s t f g = absurd (nothing_in x (f x (contains_head x x xs refl)))
  one_list (x ∷ xs) (y ∷ ys) s t f g =
      let same : x ≡ y = heads x y xs ys s t (f x (contains_head x x xs refl)) (g y (contains_head y y ys refl)) in
      let too : IsRising lt (x ∷ ys) = subst (λ (w : A). IsRising lt (w ∷ ys)) (sym same) t in
      let rest : xs ≡ ys =
      one_list xs ys s.1 t.1 (behind_too x xs ys s (λ z c. subst (λ (w : A). Contains (w ∷ ys) z) (sym same) (f z c))) (behind_too x ys xs too (λ z c. g z (subst (λ (w : A). Contains (w ∷ ys) z) same c))) in
      λ i. same i ∷ rest i

-- ---- sorted lists rise

module _ {A : Type 0} (lt : A → A → Bool) (P : A → Type 0) (tells : (x y : A) → P x → P y → lt x y ≡ false → lt y x ≡ false → x ≡ y) where
  behind : (xs : List A) (x : A) → ((j : ℕ) (d : A) → j < length xs → lt (get_or xs j d) x ≡ false) → AllByRecursion (λ y. lt y x ≡ false) xs
  behind [] x h = tt
  behind (y ∷ xs) x h = (h zero y (omega arith), behind xs x (λ j d k. h (suc j) d (omega (arith, k))))

  below : (x : A) (xs : List A) → P x → AllByRecursion P xs → (Contains xs x → ⊥) → AllByRecursion (λ y. lt y x ≡ false) xs → AllByRecursion (λ y. lt x y ≡ true) xs
  below x [] own all fresh h = tt
  below x (y ∷ xs) own all fresh h = (by_test (lt x y) refl, below x xs own all.1 (λ c. fresh (contains_tail x y xs c)) h.1)
    where
      by_test : (b : Bool) → lt x y ≡ b → lt x y ≡ true
      by_test true e = e
      by_test false e = absurd (fresh (contains_head x y xs (sym (tells x y own all.0 e h.0))))

  -- where none is below one before it, and no two tie
  pub rising : (xs : List A) → ((i j : ℕ) (d : A) → i ≤ j → j < length xs → lt (get_or xs j d) (get_or xs i d) ≡ false) → AreDistinct xs → AllByRecursion P xs → IsRising lt xs
  rising [] far distinct all = tt
  rising (x ∷ xs) far distinct all = (
    below x xs all.0 all.1 distinct.0 (behind xs x (λ j d h. far zero (suc j) d (omega arith) (omega (arith, h)))),
    rising xs (λ i j d le h. far (suc i) (suc j) d (omega (arith, le)) (omega (arith, h))) distinct.1 all.1,
  )
