-- What lists have.
use Rattle.std.proofs.Common.{◌≡◌, ◌∙◌, ◌<◌, ◌≤◌, ◌+◌, ◌++◌, ◌||◌, ◌⊎◌, ℕ, zero, suc, Bool, true, false, cond, List, [], ◌∷◌, length, filter, map, Some, refl, sym, ap, subst, arith, inl, inr}
use Rattle.std.proofs.lemmas.Bool.{cases_eq}
use Rattle.std.proofs.lemmas.List.Elements.{Contains-append_left, Contains-append_right}
use Rattle.std.specs.List.{AllByRecursion, flat_map, range_with_len}
use Rattle.std.specs.Prelude.{Contains, slice_get}
use Rattle.tf_graph.proofs.Edges.{contains_cases, contains_head, contains_tail}

pub nothing_in : {A : Type 0} (x : A) → Contains [] x → ⊥
nothing_in x c = omega (arith, c.1)

pub to_filter : {A : Type 0} (test : A → Bool) (xs : List A) (x : A) → Contains xs x → test x ≡ true → Contains (filter test xs) x
to_filter test [] x c h = absurd (nothing_in x c)
to_filter test (y ∷ xs) x c h = by_test (test y) refl (contains_cases x y xs c) (λ d. to_filter test xs x d h)
  where
    by_test : (b : Bool) → test y ≡ b → (y ≡ x) ⊎ Contains xs x → (Contains xs x → Contains (filter test xs) x) → Contains (cond b (y ∷ filter test xs) (filter test xs)) x
    by_test true is (inl here) again = contains_head x y (filter test xs) here
    by_test true is (inr rest) again = contains_tail x y (filter test xs) (again rest)
    by_test false is (inl here) again = let no : test y ≡ true = ap test here ∙ h in absurd (cc)
    by_test false is (inr rest) again = again rest

pub in_range : (a n k : ℕ) → a ≤ k → k < a + n → Contains (range_with_len a n) k
in_range a zero k low high = absurd (omega (arith, low, high))
in_range a (suc n) k low high = elim (cases_eq a k) [
  | inl here ↦ contains_head k a (range_with_len (a + 1) n) here
  | inr other ↦ contains_tail k a (range_with_len (a + 1) n) (in_range (a + 1) n k (omega (arith, low, other)) (omega (arith, high)))
]

pub got_within : {A : Type 0} (xs : List A) (n : ℕ) (x : A) → slice_get xs n ≡ Some x → n < length xs
got_within [] n x e = absurd (cc)
got_within (y ∷ xs) zero x e = omega arith
got_within (y ∷ xs) (suc n) x e = let h = got_within xs n x e in omega (arith, h)

pub to_flat_map : {A B : Type 0} (f : A → List B) (xs : List A) (x : A) (y : B) → Contains xs x → Contains (f x) y → Contains (flat_map f xs) y
to_flat_map f [] x y c d = absurd (nothing_in x c)
to_flat_map f (z ∷ xs) x y c d = elim (contains_cases x z xs c) [
  | inl here ↦ Contains-append_left (f z) (flat_map f xs) y (subst (λ w. Contains (f w) y) (sym here) d)
  | inr rest ↦ Contains-append_right (f z) (flat_map f xs) y (to_flat_map f xs x y rest d)
]

pub all_contained : {A : Type 0} (P : A → Type 0) (xs : List A) (x : A) → AllByRecursion P xs → Contains xs x → P x
all_contained P [] x all c = absurd (nothing_in x c)
all_contained P (y ∷ xs) x all c = elim (contains_cases x y xs c) [
  | inl here ↦ subst P here all.0
  | inr rest ↦ all_contained P xs x all.1 rest
]

pub all_from : {A : Type 0} (P : A → Type 0) (xs : List A) → ((x : A) → Contains xs x → P x) → AllByRecursion P xs
all_from P [] h = tt
all_from P (x ∷ xs) h = (h x (contains_head x x xs refl), all_from P xs (λ y c. h y (contains_tail y x xs c)))

pub all_weaker : {A : Type 0} (P Q : A → Type 0) (xs : List A) → ((x : A) → P x → Q x) → AllByRecursion P xs → AllByRecursion Q xs
all_weaker P Q [] f h = tt
all_weaker P Q (x ∷ xs) f h = (f x h.0, all_weaker P Q xs f h.1)

pub flat_none : {A B : Type 0} (f : A → List B) (xs : List A) → ((x : A) → f x ≡ []) → flat_map f xs ≡ []
flat_none f [] h = refl
flat_none f (x ∷ xs) h = ap (λ ys. ys ++ flat_map f xs) (h x) ∙ flat_none f xs h

pub map_none : {A B : Type 0} (f : A → B) (xs : List A) (ys : List B) → map f xs ++ ys ≡ [] → xs ≡ []
map_none f [] ys h = refl
map_none f (x ∷ xs) ys h = absurd (cc)

pub or_second : (b c : Bool) → c ≡ true → (b || c) ≡ true
or_second true c h = refl
or_second false c h = h

pub or_first : (b c : Bool) → b ≡ true → (b || c) ≡ true
or_first true c h = refl
or_first false c h = absurd (cc)
