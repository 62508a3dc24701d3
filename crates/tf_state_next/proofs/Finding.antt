-- What is found in lists of which no two elements are about the same, and in lists in the order of a key.
use Rattle.std.proofs.Common.{◌≡◌, Bool, true, false, cond, List, [], ◌∷◌, ◌++◌, filter, map, Option, Some, None, Ordering, Less, Equal, Greater, is_eq, refl, sym, ap, ◌∙◌, subst}
use Rattle.std.specs.Cmp.{IsTotalOrder}
use Rattle.std.specs.List.{AllByRecursion, find}
use Rattle.std.specs.List.Sorted.{IsStrictlySortedBy}
use Rattle.std.specs.Option.{option_or}
use Rattle.std.specs.Prelude.{option_and_then}
use Rattle.std.proofs.lemmas.Cmp.{tied_itself}
use Rattle.std.specs.Ordering.{ordering_reverse}
use Rattle.tf_state_next.specs.Events.{AreApart}
use Rattle.tf_state_data.specs.Order.{at_key}
use Rattle.tf_state_data.proofs.Sorted.{all_mono}

pub found_first : {A : Type 0} (q : A → Bool) (x : A) (xs : List A) (b : Bool) → q x ≡ b → find q (x ∷ xs) ≡ cond b (Some x) (find q xs)
found_first q x xs true e = rw e refl
found_first q x xs false e = rw e refl

joined_at : {A : Type 0} (q : A → Bool) (x : A) (xs ys : List A) (b : Bool) → q x ≡ b → find q (xs ++ ys) ≡ option_or (find q xs) (find q ys) → find q (x ∷ xs ++ ys) ≡ option_or (find q (x ∷ xs)) (find q ys)
joined_at q x xs ys true e h = rw e refl
joined_at q x xs ys false e h = rw e h

-- in two lists, one behind the other
pub found_joined : {A : Type 0} (q : A → Bool) (xs ys : List A) → find q (xs ++ ys) ≡ option_or (find q xs) (find q ys)
found_joined q [] ys = refl
found_joined q (x ∷ xs) ys = joined_at q x xs ys (q x) refl (found_joined q xs ys)

none_at : {A : Type 0} (q : A → Bool) (x : A) (xs : List A) → q x ≡ false → find q xs ≡ None → find q (x ∷ xs) ≡ None
none_at q x xs e h = rw e h

-- where none passes
pub found_none : {A : Type 0} (q : A → Bool) (xs : List A) → AllByRecursion (λ x. q x ≡ false) xs → find q xs ≡ None
found_none q [] h = refl
found_none q (x ∷ xs) h = none_at q x xs h.0 (found_none q xs h.1)

holds_at : {A : Type 0} (P : A → Type 0) (q : A → Bool) (x y : A) (xs : List A) (b : Bool) → q x ≡ b → P x → (find q xs ≡ Some y → P y) → find q (x ∷ xs) ≡ Some y → P y
holds_at P q x y xs true e p rest h = let is : Some x ≡ Some y = sym (rw e refl) ∙ h in let same : x ≡ y = cc in subst P same p
holds_at P q x y xs false e p rest h = rest (sym (rw e refl) ∙ h)

-- what holds of each holds of what is found
pub found_holds : {A : Type 0} (P : A → Type 0) (q : A → Bool) (xs : List A) (y : A) → AllByRecursion P xs → find q xs ≡ Some y → P y
found_holds P q [] y h e = absurd (cc)
found_holds P q (x ∷ xs) y h e = holds_at P q x y xs (q x) refl h.0 (found_holds P q xs y h.1) e

passes_at : {A : Type 0} (q : A → Bool) (x y : A) (xs : List A) (b : Bool) → q x ≡ b → (find q xs ≡ Some y → q y ≡ true) → find q (x ∷ xs) ≡ Some y → q y ≡ true
passes_at q x y xs true e rest h = let is : Some x ≡ Some y = sym (rw e refl) ∙ h in let same : x ≡ y = cc in subst (λ z. q z ≡ true) same e
passes_at q x y xs false e rest h = rest (sym (rw e refl) ∙ h)

-- what is found passes
pub found_passes : {A : Type 0} (q : A → Bool) (xs : List A) (y : A) → find q xs ≡ Some y → q y ≡ true
found_passes q [] y e = absurd (cc)
found_passes q (x ∷ xs) y e = passes_at q x y xs (q x) refl (found_passes q xs y) e

-- ---- no two are about the same

all_back : {A : Type 0} (P : A → Type 0) (xs ys : List A) → AllByRecursion P (xs ++ ys) → AllByRecursion P ys
all_back P [] ys h = h
all_back P (x ∷ xs) ys h = all_back P xs ys h.1

all_front : {A : Type 0} (P : A → Type 0) (xs ys : List A) → AllByRecursion P (xs ++ ys) → AllByRecursion P xs
all_front P [] ys h = tt
all_front P (x ∷ xs) ys h = (h.0, all_front P xs ys h.1)

pub apart_front : {A B : Type 0} (about : A → B) (xs ys : List A) → AreApart about (xs ++ ys) → AreApart about xs
apart_front about [] ys h = tt
apart_front about (x ∷ xs) ys h = (all_front (λ y. ¬ (about x ≡ about y)) xs ys h.0, apart_front about xs ys h.1)

pub apart_back : {A B : Type 0} (about : A → B) (xs ys : List A) → AreApart about (xs ++ ys) → AreApart about ys
apart_back about [] ys h = h
apart_back about (x ∷ xs) ys h = apart_back about xs ys h.1

passes_not : (b : Bool) → (b ≡ true → ⊥) → b ≡ false
passes_not true h = absurd (h refl)
passes_not false h = refl

not_about : {A B : Type 0} (about : A → B) (q : A → Bool) (k b : B) → ((y : A) → q y ≡ true → about y ≡ k) → b ≡ k → (ys : List A) → AllByRecursion (λ y. ¬ (b ≡ about y)) ys → AllByRecursion (λ y. q y ≡ false) ys
not_about about q k b one is [] h = tt
not_about about q k b one is (y ∷ ys) h = (passes_not (q y) (λ passed. h.0 (is ∙ sym (one y passed))), not_about about q k b one is ys h.1)

once_at : {A B : Type 0} (about : A → B) (q : A → Bool) (k : B) → ((y : A) → q y ≡ true → about y ≡ k) → (x y : A) (xs ys : List A) (b : Bool) → q x ≡ b
    → AllByRecursion (λ y. ¬ (about x ≡ about y)) ys → (find q xs ≡ Some y → find q ys ≡ None) → find q (x ∷ xs) ≡ Some y → find q ys ≡ None
once_at about q k one x y xs ys true e other rest h = found_none q ys (not_about about q k (about x) one (one x e) ys other)
once_at about q k one x y xs ys false e other rest h = rest (sym (rw e refl) ∙ h)

-- what is found in one of two lists isn't found in the other
pub found_once : {A B : Type 0} (about : A → B) (q : A → Bool) (k : B) → ((y : A) → q y ≡ true → about y ≡ k) → (xs ys : List A) (y : A) → AreApart about (xs ++ ys) → find q xs ≡ Some y → find q ys ≡ None
found_once about q k one [] ys y apart e = absurd (cc)
found_once about q k one (x ∷ xs) ys y apart e =
    once_at about q k one x y xs ys (q x) refl (all_back (λ y. ¬ (about x ≡ about y)) xs ys apart.0) (found_once about q k one xs ys y apart.1) e

-- ---- in the order of a key

module _ {A K : Type 0} (key : A → K) (cmp : K → K → Ordering) (total : IsTotalOrder cmp) where
  -- elements stand in the order of their keys, no two with one
  abbrev pub AreInOrder : List A → Type 0
  AreInOrder xs = IsStrictlySortedBy cmp (map key xs)

  behind : (k j : K) → cmp k j ≡ Less → is_eq (cmp j k) ≡ false
  behind k j e = ap is_eq (total.antisymm j k ∙ ap ordering_reverse e)

  all_behind : (k : K) (xs : List A) → AllByRecursion (λ j. cmp k j ≡ Less) (map key xs) → AllByRecursion (λ x. is_eq (cmp (key x) k) ≡ false) xs
  all_behind k [] h = tt
  all_behind k (x ∷ xs) h = (behind k (key x) h.0, all_behind k xs h.1)

  -- none is found that stands before all of them
  none_before : (k : K) (xs : List A) → AllByRecursion (λ j. cmp k j ≡ Less) (map key xs) → at_key key cmp k xs ≡ None
  none_before k xs h = found_none (λ x. is_eq (cmp (key x) k)) xs (all_behind k xs h)

  -- the first is found by its own key
  pub first : (x : A) (xs : List A) → at_key key cmp (key x) (x ∷ xs) ≡ Some x
  first x xs = found_first (λ y. is_eq (cmp (key y) (key x))) x xs true (ap is_eq (tied_itself total (key x)))

  equal_from : (o : Ordering) → is_eq o ≡ true → o ≡ Equal
  equal_from Equal e = refl
  equal_from Less e = absurd (cc)
  equal_from Greater e = absurd (cc)

  all_found_at : (P : A → Type 0) (x : A) (xs : List A) → AllByRecursion (λ j. cmp (key x) j ≡ Less) (map key xs)
      → ((k : K) (y : A) → at_key key cmp k (x ∷ xs) ≡ Some y → P y) → (k : K) (y : A) → at_key key cmp k xs ≡ Some y → P y
  all_found_at P x xs less h k y e = by_test (is_eq (cmp (key x) k)) refl
    where
      by_test : (b : Bool) → is_eq (cmp (key x) k) ≡ b → P y
      by_test false is = h k y (found_first (λ y. is_eq (cmp (key y) k)) x xs false is ∙ e)
      by_test true is =
          let tied : cmp (key x) k ≡ Equal = equal_from (cmp (key x) k) is in
          let none : at_key key cmp k xs ≡ None = none_before k xs (all_mono (λ j. cmp (key x) j ≡ Less) (λ j. cmp k j ≡ Less) (map key xs) (λ j less. sym (total.congr (key x) k j tied) ∙ less) less) in
          let no : None ≡ Some y = sym none ∙ e in absurd (cc)

  -- what holds of each that is found holds of all
  pub all_found : (P : A → Type 0) (xs : List A) → AreInOrder xs → ((k : K) (y : A) → at_key key cmp k xs ≡ Some y → P y) → AllByRecursion P xs
  unfolding IsStrictlySortedBy
  all_found P [] ordered h = tt
  all_found P (x ∷ xs) ordered h = (h (key x) x (first x xs), all_found P xs ordered.1 (all_found_at P x xs ordered.0 h))

  kept_all : (Q : K → Type 0) (p : A → Bool) (xs : List A) → AllByRecursion Q (map key xs) → AllByRecursion Q (map key (filter p xs))
  kept_all Q p [] h = tt
  kept_all Q p (x ∷ xs) h = kept_one (p x) h.0 (kept_all Q p xs h.1)
    where
      kept_one : (b : Bool) → Q (key x) → AllByRecursion Q (map key (filter p xs)) → AllByRecursion Q (map key (cond b (x ∷ filter p xs) (filter p xs)))
      kept_one true q rest = (q, rest)
      kept_one false q rest = rest

  -- those that pass a test are in order
  pub filtered_ordered : (p : A → Bool) (xs : List A) → AreInOrder xs → AreInOrder (filter p xs)
  unfolding IsStrictlySortedBy
  filtered_ordered p [] ordered = tt
  filtered_ordered p (x ∷ xs) ordered = kept_one (p x) (filtered_ordered p xs ordered.1)
    where
      kept_one : (b : Bool) → IsStrictlySortedBy cmp (map key (filter p xs)) → IsStrictlySortedBy cmp (map key (cond b (x ∷ filter p xs) (filter p xs)))
      kept_one true rest = (kept_all (λ j. cmp (key x) j ≡ Less) p xs ordered.0, rest)
      kept_one false rest = rest

  abbrev passing : (A → Bool) → A → Option A
  passing p x = cond (p x) (Some x) None

  filtered_at : (p : A → Bool) (k : K) (x : A) (xs : List A) (b c : Bool) → p x ≡ b → is_eq (cmp (key x) k) ≡ c → AllByRecursion (λ j. cmp (key x) j ≡ Less) (map key xs)
      → at_key key cmp k (filter p xs) ≡ option_and_then (passing p) (at_key key cmp k xs) → at_key key cmp k (cond b (x ∷ filter p xs) (filter p xs)) ≡ option_and_then (passing p) (at_key key cmp k (x ∷ xs))
  filtered_at p k x xs true true e is less rest = rw (is, e) refl
  filtered_at p k x xs true false e is less rest = rw is rest
  filtered_at p k x xs false false e is less rest = rw is rest
  filtered_at p k x xs false true e is less rest =
      let tied : cmp (key x) k ≡ Equal = equal_from (cmp (key x) k) is in
      let none : at_key key cmp k (filter p xs) ≡ None =
      none_before k (filter p xs) (all_mono (λ j. cmp (key x) j ≡ Less) (λ j. cmp k j ≡ Less) (map key (filter p xs)) (λ j less. sym (total.congr (key x) k j tied) ∙ less) (kept_all (λ j. cmp (key x) j ≡ Less) p xs less)) in
      none ∙ rw (is, e) refl

  -- among those that pass a test the one with a key is found where it passes
  pub found_filtered : (p : A → Bool) (k : K) (xs : List A) → AreInOrder xs → at_key key cmp k (filter p xs) ≡ option_and_then (passing p) (at_key key cmp k xs)
  unfolding IsStrictlySortedBy
  found_filtered p k [] ordered = refl
  found_filtered p k (x ∷ xs) ordered = filtered_at p k x xs (p x) (is_eq (cmp (key x) k)) refl refl ordered.0 (found_filtered p k xs ordered.1)

  -- ---- lists with the same at each key are one

  module _ (one : (i j : K) → cmp i j ≡ Equal → i ≡ j) where
    rest_at : (k : K) (x y : A) (xs ys : List A) (b : Bool) → is_eq (cmp (key x) k) ≡ b → key x ≡ key y → AllByRecursion (λ j. cmp (key x) j ≡ Less) (map key xs) → AllByRecursion (λ j. cmp (key y) j ≡ Less) (map key ys)
        → at_key key cmp k (x ∷ xs) ≡ at_key key cmp k (y ∷ ys) → at_key key cmp k xs ≡ at_key key cmp k ys
    rest_at k x y xs ys true e same f g h =
        let is : key x ≡ k = one (key x) k (equal_from (cmp (key x) k) e) in
        let too : key y ≡ k = sym same ∙ is in
        none_before k xs (subst (λ i. AllByRecursion (λ j. cmp i j ≡ Less) (map key xs)) is f) ∙ sym (none_before k ys (subst (λ i. AllByRecursion (λ j. cmp i j ≡ Less) (map key ys)) too g))
    rest_at k x y xs ys false e same f g h =
        sym (found_first (λ z. is_eq (cmp (key z) k)) x xs false e) ∙ h ∙ found_first (λ z. is_eq (cmp (key z) k)) y ys false (ap (λ i. is_eq (cmp i k)) (sym same) ∙ e)

    both_at : (x y : A) (xs ys : List A) (o : Ordering) → cmp (key x) (key y) ≡ o → AreInOrder (x ∷ xs) → AreInOrder (y ∷ ys) → ((k : K) → at_key key cmp k (x ∷ xs) ≡ at_key key cmp k (y ∷ ys))
        → (((k : K) → at_key key cmp k xs ≡ at_key key cmp k ys) → xs ≡ ys) → ◌≡◌ {A = List A} (x ∷ xs) (y ∷ ys)
    unfolding IsStrictlySortedBy
    both_at x y xs ys Equal e s t same rest =
        let keys = one (key x) (key y) e in
        let found : Some x ≡ Some y = sym (first x xs) ∙ same (key x) ∙ ap (λ i. at_key key cmp i (y ∷ ys)) keys ∙ first y ys in
        let is : x ≡ y = (cc) in
        let behind_them : xs ≡ ys = rest (λ k. rest_at k x y xs ys (is_eq (cmp (key x) k)) refl keys s.0 t.0 (same k)) in
        cc
    both_at x y xs ys Less e s t same rest =
        let none = none_before (key x) (y ∷ ys) (e, all_mono (λ j. cmp (key y) j ≡ Less) (λ j. cmp (key x) j ≡ Less) (map key ys) (λ j less. total.trans (key x) (key y) j e less) t.0) in
        let no : Some x ≡ None = sym (first x xs) ∙ same (key x) ∙ none in absurd (cc)
    both_at x y xs ys Greater e s t same rest =
        let f : cmp (key y) (key x) ≡ Less = total.antisymm (key y) (key x) ∙ ap ordering_reverse e in
        let none = none_before (key y) (x ∷ xs) (f, all_mono (λ j. cmp (key x) j ≡ Less) (λ j. cmp (key y) j ≡ Less) (map key xs) (λ j less. total.trans (key y) (key x) j f less) s.0) in
        let no : Some y ≡ None = sym (first y ys) ∙ sym (same (key y)) ∙ none in absurd (cc)

    pub same_lists : (xs ys : List A) → AreInOrder xs → AreInOrder ys → ((k : K) → at_key key cmp k xs ≡ at_key key cmp k ys) → xs ≡ ys
    unfolding IsStrictlySortedBy
    same_lists [] [] s t same = refl
    same_lists [] (y ∷ ys) s t same = let no : None ≡ Some y = same (key y) ∙ first y ys in absurd (cc)
    same_lists (x ∷ xs) [] s t same = let no : Some x ≡ None = sym (first x xs) ∙ same (key x) in absurd (cc)
    same_lists (x ∷ xs) (y ∷ ys) s t same = both_at x y xs ys (cmp (key x) (key y)) refl s t same (λ rest. same_lists xs ys s.1 t.1 rest)
