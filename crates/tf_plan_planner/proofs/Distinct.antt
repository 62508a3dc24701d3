-- Lists whose elements are all different.
use Rattle.std.proofs.Common.{◌≡◌, ◌∙◌, ℕ, zero, suc, Bool, true, false, cond, List, [], ◌∷◌, ◌++◌, Some, filter, map, Ordering, Less, refl, sym, ap, subst, arith, inl, inr}
use Rattle.std.specs.Cmp.{IsTotalOrder}
use Rattle.std.specs.List.{AllByRecursion, flat_map}
use Rattle.std.specs.List.Sorted.{IsStrictlySortedBy}
use Rattle.std.specs.Prelude.{Contains, slice_get}
use Rattle.std.proofs.lemmas.List.Elements.{Contains-append_cases}
use Rattle.std.proofs.lemmas.Option.{same_Some}
use Rattle.tf_graph.proofs.Edges.{contains_cases, contains_head, contains_tail}
pub use Rattle.tf_plan_order.proofs.Naming.{in_map, to_map}

-- no element is one of those behind it
abbrev pub AreDistinct : {A : Type 0} → List A → Type 0
AreDistinct [] = Unit {0}
AreDistinct (x ∷ xs) = (Contains xs x → ⊥) × AreDistinct xs

-- ---- what lists have

pub at-contained : {A : Type 0} (xs : List A) (i : ℕ) (x : A) → slice_get xs i ≡ Some x → Contains xs x
at-contained [] i x e = absurd (cc)
at-contained (y ∷ xs) zero x e = contains_head x y xs (same_Some y x e)
at-contained (y ∷ xs) (suc i) x e = contains_tail x y xs (at-contained xs i x e)

pub in_flat_map : {A B : Type 0} (f : A → List B) (xs : List A) (y : B) → Contains (flat_map f xs) y → (x : A) × Contains xs x × Contains (f x) y
in_flat_map f [] y c = absurd (omega (arith, c.1))
in_flat_map f (x ∷ xs) y c = elim (Contains-append_cases (f x) (flat_map f xs) y c) [
  | inl here ↦ (x, contains_head x x xs refl, here)
  | inr rest ↦ let later = in_flat_map f xs y rest in (later.0, contains_tail later.0 x xs later.1, later.2)
]

-- ---- lists that stay distinct

pub distinct-append : {A : Type 0} (xs ys : List A) → AreDistinct xs → AreDistinct ys → ((x : A) → Contains xs x → Contains ys x → ⊥) → AreDistinct (xs ++ ys)
distinct-append [] ys dx dy apart = dy
distinct-append (x ∷ xs) ys dx dy apart = (
  λ c. elim (Contains-append_cases xs ys x c) [
    | inl front ↦ dx.0 front
    | inr back ↦ apart x (contains_head x x xs refl) back
  ],
  distinct-append xs ys dx.1 dy (λ z c d. apart z (contains_tail z x xs c) d),
)

-- what is made of different elements is different where it tells the elements apart
pub distinct-told : {A B C : Type 0} (f : A → B) (h : A → C) (xs : List A) → ((x y : A) → Contains xs x → Contains xs y → f x ≡ f y → h x ≡ h y) → AreDistinct (map h xs) → AreDistinct (map f xs)
distinct-told f h [] tells d = tt
distinct-told f h (x ∷ xs) tells d = (
  λ c.
      let other = in_map f xs (f x) c in
      d.0 (subst (Contains (map h xs)) (tells other.0 x (contains_tail other.0 x xs other.1) (contains_head x x xs refl) other.2) (to_map h xs other.0 other.1)),
  distinct-told f h xs (λ y z c e. tells y z (contains_tail y x xs c) (contains_tail z x xs e)) d.1,
)

-- lists of which no two have something in common
pub distinct-flat : {A B : Type 0} (g : A → List B) (xs : List A) → AreDistinct xs → ((x : A) → Contains xs x → AreDistinct (g x))
    → ((x y : A) (b : B) → Contains xs x → Contains xs y → Contains (g x) b → Contains (g y) b → x ≡ y) → AreDistinct (flat_map g xs)
distinct-flat g [] d each apart = tt
distinct-flat g (x ∷ xs) d each apart =
    distinct-append (g x) (flat_map g xs) (each x (contains_head x x xs refl))
    (distinct-flat g xs d.1 (λ y c. each y (contains_tail y x xs c)) (λ y z b c e. apart y z b (contains_tail y x xs c) (contains_tail z x xs e)))
    (λ b here behind.
    let other = in_flat_map g xs b behind in
    d.0 (subst (Contains xs) (apart other.0 x b (contains_tail other.0 x xs other.1) (contains_head x x xs refl) other.2 here) other.1))

-- in a list of different elements one stands at one place alone
pub distinct-at : {A : Type 0} (xs : List A) (i j : ℕ) (x : A) → AreDistinct xs → slice_get xs i ≡ Some x → slice_get xs j ≡ Some x → i ≡ j
distinct-at [] i j x d e f = absurd (cc)
distinct-at (y ∷ xs) zero zero x d e f = refl
distinct-at (y ∷ xs) zero (suc j) x d e f = absurd (d.0 (subst (Contains xs) (sym (same_Some y x e)) (at-contained xs j x f)))
distinct-at (y ∷ xs) (suc i) zero x d e f = absurd (d.0 (subst (Contains xs) (sym (same_Some y x f)) (at-contained xs i x e)))
distinct-at (y ∷ xs) (suc i) (suc j) x d e f = ap suc (distinct-at xs i j x d.1 e f)

-- ---- sorted lists are distinct

pub all-contained : {A : Type 0} (P : A → Type 0) (xs : List A) (x : A) → AllByRecursion P xs → Contains xs x → P x
all-contained P [] x all c = absurd (omega (arith, c.1))
all-contained P (y ∷ xs) x all c = elim (contains_cases x y xs c) [
  | inl here ↦ subst P here all.0
  | inr rest ↦ all-contained P xs x all.1 rest
]

pub distinct-sorted : {K : Type 0} (c : K → K → Ordering) (o : IsTotalOrder c) (ks : List K) → IsStrictlySortedBy c ks → AreDistinct ks
unfolding IsStrictlySortedBy
distinct-sorted c o [] s = tt
distinct-sorted c o (k ∷ ks) s = (λ there. let less = all-contained (λ y. c k y ≡ Less) ks k s.0 there in let turned = o.antisymm k k in absurd (cc), distinct-sorted c o ks s.1)

-- ---- filtered lists

pub in_filter : {A : Type 0} (test : A → Bool) (xs : List A) (x : A) → Contains (filter test xs) x → Contains xs x × (test x ≡ true)
in_filter test [] x c = absurd (omega (arith, c.1))
in_filter test (z ∷ xs) x c = by_test (test z) refl c (λ d. in_filter test xs x d)
  where
    by_test : (b : Bool) → test z ≡ b → Contains (cond b (z ∷ filter test xs) (filter test xs)) x → (Contains (filter test xs) x → Contains xs x × (test x ≡ true)) → Contains (z ∷ xs) x × (test x ≡ true)
    by_test true is d again = elim (contains_cases x z (filter test xs) d) [
      | inl here ↦ (contains_head x z xs here, ap test (sym here) ∙ is)
      | inr rest ↦ let later = again rest in (contains_tail x z xs later.0, later.1)
    ]
    by_test false is d again = let later = again d in (contains_tail x z xs later.0, later.1)

pub distinct-filter : {A B : Type 0} (f : A → B) (test : A → Bool) (xs : List A) → AreDistinct (map f xs) → AreDistinct (map f (filter test xs))
distinct-filter f test [] d = tt
distinct-filter f test (x ∷ xs) d = by_test (test x) (distinct-filter f test xs d.1)
  where
    by_test : (b : Bool) → AreDistinct (map f (filter test xs)) → AreDistinct (map f (cond b (x ∷ filter test xs) (filter test xs)))
    by_test true rest = (
      λ c. let other = in_map f (filter test xs) (f x) c in d.0 (subst (Contains (map f xs)) other.2 (to_map f xs other.0 (in_filter test xs other.0 other.1).0)),
      rest,
    )
    by_test false rest = rest
