-- Where no name of a configuration needs itself, names have ranks: each is above all that it refers to.
use Rattle.std.proofs.Common.{◌≡◌, ◌↔◌, ◌++◌, ◌<◌, inl, inr, ℕ, zero, suc, Bool, true, false, Some, List, [], ◌∷◌, length, refl, sym, ap, subst, arith}
use Rattle.std.proofs.lemmas.Bool.{cases_eq, cases_lt}
use Rattle.std.proofs.lemmas.List.Elements.{Contains-append_cases, Contains-append_left, Contains-append_right}
use Rattle.std.specs.Prelude.{Contains}
use Rattle.tf_config_data.specs.Names.{NameView, directly_before, meant_at, place_of, refers_at}
use Rattle.tf_graph.proofs.Edges.{contains_cases, contains_head, contains_tail}
use Rattle.tf_graph.proofs.GraphLaws.{all_from_contained}
use Rattle.tf_graph.proofs.Solving.{all_by_at, ranked-by_order}
use Rattle.tf_graph.specs.Path.{Path, direct, joined, onward}
use Rattle.tf_graph.specs.Solutions.{Ranked}
use Rattle.tf_laws.proofs.Leading.{decided_path, nothing_in, tested}
use Rattle.tf_config_names.proofs.Edging.{before-past, places-below}
use Rattle.tf_config_names.proofs.Needing.{name-from_places, place_of-one, refers-from_before}
use Rattle.tf_config_names.specs.Needs.{Needs}
use Rattle.tf_expr_syntax.specs.TemplateNames.{Pair}

-- ---- what stands before numbers below a count, in pairs

-- one of the pairs leads from a to b
abbrev IsPair : List (ℕ × ℕ) → ℕ → ℕ → Type 0
IsPair pairs a b = Contains pairs (a, b)

pairs_into : ℕ → List ℕ → List (ℕ × ℕ)
pairs_into n [] = []
pairs_into n (a ∷ xs) = (a, n) ∷ pairs_into n xs

pairs_below : (ℕ → List ℕ) → ℕ → List (ℕ × ℕ)
pairs_below before zero = []
pairs_below before (suc n) = pairs_into n (before n) ++ pairs_below before n

in_into : (n : ℕ) (xs : List ℕ) (a : ℕ) → Contains xs a → Contains (pairs_into n xs) (a, n)
unfolding pairs_into
in_into n [] a c = absurd (omega (arith, c.1))
in_into n (b ∷ xs) a c = elim (contains_cases a b xs c) [
  | inl here ↦ contains_head (a, n) (b, n) (pairs_into n xs) (ap (λ (k : ℕ). (k, n)) here)
  | inr rest ↦ contains_tail (a, n) (b, n) (pairs_into n xs) (in_into n xs a rest)
]

of_into : (n : ℕ) (xs : List ℕ) (a m : ℕ) → Contains (pairs_into n xs) (a, m) → (m ≡ n) × Contains xs a
unfolding pairs_into
of_into n [] a m c = absurd (nothing_in (a, m) c)
of_into n (b ∷ xs) a m c = elim (contains_cases (a, m) (b, n) (pairs_into n xs) c) [
  | inl here ↦ (sym (ap (λ (q : ℕ × ℕ). q.1) here), contains_head a b xs (ap (λ (q : ℕ × ℕ). q.0) here))
  | inr rest ↦ let later = of_into n xs a m rest in (later.0, contains_tail a b xs later.1)
]

in_below : (before : ℕ → List ℕ) (count a n : ℕ) → n < count → Contains (before n) a → Contains (pairs_below before count) (a, n)
unfolding pairs_below
in_below before zero a n below c = absurd (omega (arith, below))
in_below before (suc count) a n below c = elim (cases_eq n count) [
  | inl same ↦ Contains-append_left (pairs_into count (before count)) (pairs_below before count) (a, n)
      (subst (λ (k : ℕ). Contains (pairs_into k (before k)) (a, n)) same (in_into n (before n) a c))
  | inr other ↦ Contains-append_right (pairs_into count (before count)) (pairs_below before count) (a, n) (in_below before count a n (omega (arith, below, other)) c)
]

of_below : (before : ℕ → List ℕ) (count a n : ℕ) → Contains (pairs_below before count) (a, n) → Contains (before n) a
unfolding pairs_below
of_below before zero a n c = absurd (nothing_in (a, n) c)
of_below before (suc count) a n c = elim (Contains-append_cases (pairs_into count (before count)) (pairs_below before count) (a, n) c) [
  | inl first ↦ let found = of_into count (before count) a n first in subst (λ (k : ℕ). Contains (before k) a) (sym found.0) found.1
  | inr later ↦ of_below before count a n later
]

-- ---- names

module _ (names : List NameView) (none : (pair : Pair) → Needs names pair pair → ⊥) where
  name_pairs : List (ℕ × ℕ)
  name_pairs = pairs_below (directly_before names) (length names)

  referred : (a n : ℕ) → Contains name_pairs (a, n) → Contains (directly_before names n) a
  unfolding name_pairs
  referred a n c = of_below (directly_before names) (length names) a n c

  -- what a name refers to is a name
  named : (a n : ℕ) → Contains name_pairs (a, n) → (p : Pair) × (place_of names p ≡ Some a)
  named a n c = let found = name-from_places names (refers_at (meant_at names n)) a (referred a n c) in (found.0, found.2)

  step : (q : Pair) (a n : ℕ) → place_of names q ≡ Some n → (c : Contains name_pairs (a, n)) → Needs names q (named a n c).0
  step q a n at c = direct q (named a n c).0 (refers-from_before names q (named a n c).0 n a at (named a n c).1 (referred a n c))

  needed : (a n : ℕ) → Path (IsPair name_pairs) a n → (q : Pair) → place_of names q ≡ Some n → (p : Pair) × (place_of names p ≡ Some a) × Needs names q p
  needed _ _ (direct a n c) q at = ((named a n c).0, (named a n c).1, step q a n at c)
  needed _ _ (onward a m n c path) q at =
      let later = needed m n path q at in
      ((named a m c).0, (named a m c).1, joined q later.0 (named a m c).0 later.2 (step later.0 a m later.1 c))

  started : (a n : ℕ) → Path (IsPair name_pairs) a n → (p : Pair) × (place_of names p ≡ Some a)
  started _ _ (direct a n c) = named a n c
  started _ _ (onward a m n c path) = named a m c

  none_back : (a : ℕ) → Path (IsPair name_pairs) a a → ⊥
  none_back a path =
      let start = started a a path in
      let found = needed a a path start.0 start.1 in
      none start.0 (subst (λ (p : Pair). Needs names start.0 p) (place_of-one names found.0 start.0 a found.1 start.1) found.2)

  leads : (a b : ℕ) → (t : Bool) × ((t ≡ true) ↔ Path (IsPair name_pairs) a b)
  leads a b = tested (Path (IsPair name_pairs) a b) (decided_path name_pairs a b)

  not_true : (t : Bool) → (t ≡ true → ⊥) → t ≡ false
  not_true false h = refl
  not_true true h = absurd (h refl)

  before_pair : (n a : ℕ) → Contains (directly_before names n) a → Contains name_pairs (a, n)
  unfolding name_pairs
  before_pair n a c = elim (cases_lt n (length names)) [
    | inl below ↦ in_below (directly_before names) (length names) a n below c
    | inr past ↦ absurd (let no : Contains [] a = subst (λ (l : List ℕ). Contains l a) (before-past names n past) c in omega (arith, no.1))
  ]

  pub names_ranked : Ranked (directly_before names)
  names_ranked =
      ranked-by_order (length names) (directly_before names) (λ a b. (leads a b).0) (record {
        irreflexive = λ a h. not_true (leads a a).0 (λ e. none_back a ((leads a a).1.0 e));
        transitive = λ a b c h k p q. (leads a c).1.1 (joined a b c ((leads a b).1.0 p) ((leads b c).1.0 q));
        holds = λ n. all_from_contained (λ a. (a < length names) × ((leads a n).0 ≡ true)) (directly_before names n) (λ a c.
            (all_by_at (λ k. k < length names) (directly_before names n) a (places-below names (refers_at (meant_at names n))) c, (leads a n).1.1 (direct a n (before_pair n a c))));
      })
