-- Lists: what holds of each element, and lists with the same elements.
use Rattle.std.proofs.Common.{◌≡◌, ◌<◌, ◌⊎◌, inl, inr, ℕ, zero, suc, List, [], ◌∷◌, ◌++◌, length, Some, refl, sym, ap, subst, arith}
use Rattle.std.proofs.lemmas.List.Elements.{Contains-append_cases, Contains-append_left, Contains-append_right}
use Rattle.std.proofs.lemmas.List.Sorted.{IsPermutation-cons, IsPermutation-middle, IsPermutation-refl, IsPermutation-sym, IsPermutation-trans}
use Rattle.std.specs.List.{AllByRecursion}
use Rattle.std.specs.Prelude.{Contains, IsPermutation, slice_get, slice_index_or, ⊤}

-- what holds of each holds of the one at a place
pub all_got : {A : Type 0} (P : A → Type 0) (xs : List A) → AllByRecursion P xs → (n : ℕ) (x : A) → slice_get xs n ≡ Some x → P x
all_got P [] h n x e = absurd (cc)
all_got P (y ∷ ys) h zero x e = let same : y ≡ x = (cc) in subst P same h.0
all_got P (y ∷ ys) h (suc n) x e = all_got P ys h.1 n x e

-- what holds of the one at each place holds of each
pub got_all : {A : Type 0} (P : A → Type 0) (xs : List A) → ((n : ℕ) (x : A) → slice_get xs n ≡ Some x → P x) → AllByRecursion P xs
got_all P [] h = tt
got_all P (x ∷ xs) h = (h 0 x refl, got_all P xs (λ n y e. h (suc n) y e))

pub all_appended : {A : Type 0} (P : A → Type 0) (xs ys : List A) → AllByRecursion P xs → AllByRecursion P ys → AllByRecursion P (xs ++ ys)
all_appended P [] ys h k = k
all_appended P (x ∷ xs) ys h k = (h.0, all_appended P xs ys h.1 k)

-- ---- elements

pub nothing_in : {A : Type 0} (x : A) → Contains [] x → ⊥
nothing_in x c = absurd (omega (arith, c.1))

pub got_in : {A : Type 0} (xs : List A) (n : ℕ) (x : A) → slice_get xs n ≡ Some x → Contains xs x
got_in [] n x e = absurd (cc)
got_in (y ∷ ys) zero x e = let same : y ≡ x = (cc) in (0, omega arith, same)
got_in (y ∷ ys) (suc n) x e = let later = got_in ys n x e in (suc later.0, omega (arith, later.1), later.2)

pub in_got : {A : Type 0} (xs : List A) (x : A) → Contains xs x → (n : ℕ) × (slice_get xs n ≡ Some x)
in_got {A} xs x c = (c.0, at xs c.0 c.1 c.2)
  where
    at : (ys : List A) (k : ℕ) → k < length ys → slice_index_or ys k x ≡ x → slice_get ys k ≡ Some x
    at [] k h e = absurd (omega (arith, h))
    at (y ∷ ys) zero h e = ap Some e
    at (y ∷ ys) (suc k) h e = at ys k (omega arith) e

pub in_head : {A : Type 0} (x y : A) (ys : List A) → y ≡ x → Contains (y ∷ ys) x
in_head x y ys e = (0, omega arith, e)

pub in_tail : {A : Type 0} (x y : A) (ys : List A) → Contains ys x → Contains (y ∷ ys) x
in_tail x y ys c = (suc c.0, omega (arith, c.1), c.2)

pub in_cases : {A : Type 0} (x y : A) (ys : List A) → Contains (y ∷ ys) x → (y ≡ x) ⊎ Contains ys x
in_cases x y ys (zero, h, e) = inl e
in_cases x y ys (suc k, h, e) = inr (k, omega arith, e)

-- ---- lists with the same elements

-- no element stands in a list twice
abbrev pub AreDistinct : {A : Type 0} → List A → Type 0
AreDistinct [] = ⊤
AreDistinct (x ∷ xs) = (Contains xs x → ⊥) × AreDistinct xs

-- an element stands at some place, with what is before and after it
pub record IsSplit {A : Type 0} (xs : List A) (x : A) : Type 0 where
  pub front : List A
  pub back : List A
  pub is : xs ≡ front ++ x ∷ back

split_later : {A : Type 0} (x y : A) (ys : List A) → IsSplit ys x → IsSplit (y ∷ ys) x
split_later x y ys s = record { front = y ∷ s.front; back = s.back; is = ap (λ zs. y ∷ zs) s.is }

pub split_at : {A : Type 0} (xs : List A) (x : A) → Contains xs x → IsSplit xs x
split_at [] x c = absurd (nothing_in x c)
split_at (y ∷ ys) x c = elim (in_cases x y ys c) [
  | inl same ↦ record { front = []; back = ys; is = ap (λ z. z ∷ ys) same }
  | inr later ↦ split_later x y ys (split_at ys x later)
]

-- what stands in both parts stands in the whole
module _ {A : Type 0} (front back : List A) (x : A) where
  pub part_in_whole : (z : A) → Contains (front ++ back) z → Contains (front ++ x ∷ back) z
  part_in_whole z c = elim (Contains-append_cases front back z c) [
    | inl first ↦ Contains-append_left front (x ∷ back) z first
    | inr last ↦ Contains-append_right front (x ∷ back) z (in_tail z x back last)
  ]

  pub whole_in_part : (z : A) → Contains (front ++ x ∷ back) z → (x ≡ z) ⊎ Contains (front ++ back) z
  whole_in_part z c = elim (Contains-append_cases front (x ∷ back) z c) [
    | inl first ↦ inr (Contains-append_left front back z first)
    | inr last ↦ behind (in_cases z x back last)
  ]
    where
      behind : (x ≡ z) ⊎ Contains back z → (x ≡ z) ⊎ Contains (front ++ back) z
      behind (inl same) = inl same
      behind (inr later) = inr (Contains-append_right front back z later)

-- without one of its elements such a list is so too, and hasn't that one any more
distinct_without : {A : Type 0} (front back : List A) (x : A) → AreDistinct (front ++ x ∷ back) → AreDistinct (front ++ back) × (Contains (front ++ back) x → ⊥)
distinct_without [] back x d = (d.1, d.0)
distinct_without (y ∷ front) back x d =
    let rest = distinct_without front back x d.1 in (
      (λ c. d.0 (part_in_whole front back x y c), rest.0),
      λ c. elim (in_cases x y (front ++ back) c) [
        | inl same ↦ d.0 (Contains-append_right front (x ∷ back) y (in_head y x back (sym same)))
        | inr later ↦ rest.1 later
      ],
    )

-- two such lists of the same elements have them in another order
pub same_elements : {A : Type 0} (xs ys : List A) → AreDistinct xs → AreDistinct ys → ((x : A) → Contains xs x → Contains ys x) → ((x : A) → Contains ys x → Contains xs x) → IsPermutation xs ys
same_elements [] [] d e f g = IsPermutation-refl []
same_elements [] (y ∷ ys) d e f g = absurd (nothing_in y (g y (in_head y y ys refl)))
same_elements {A} (x ∷ xs) ys d e f g =
    let s = split_at ys x (f x (in_head x x xs refl)) in
    let without = distinct_without s.front s.back x (subst AreDistinct s.is e) in
    let rest : IsPermutation xs (s.front ++ s.back) = same_elements xs (s.front ++ s.back) d.1 without.0
    (λ z c. elim (whole_in_part s.front s.back x z (subst (λ zs. Contains zs z) s.is (f z (in_tail z x xs c)))) [
      | inl same ↦ absurd (d.0 (subst (λ w. Contains xs w) (sym same) c))
      | inr there ↦ there
    ])
    (λ z c. elim (in_cases z x xs (g z (subst (λ zs. Contains zs z) (sym s.is) (part_in_whole s.front s.back x z c)))) [
      | inl same ↦ absurd (without.1 (subst (λ w. Contains (s.front ++ s.back) w) (sym same) c))
      | inr there ↦ there
    ]) in
    let whole : IsPermutation (x ∷ xs) (s.front ++ x ∷ s.back) =
    IsPermutation-trans (x ∷ xs) (x ∷ (s.front ++ s.back)) (s.front ++ x ∷ s.back) (IsPermutation-cons x xs (s.front ++ s.back) rest)
    (IsPermutation-sym (s.front ++ x ∷ s.back) (x ∷ (s.front ++ s.back)) (IsPermutation-middle s.front x s.back)) in
    subst (IsPermutation (x ∷ xs)) (sym s.is) whole
