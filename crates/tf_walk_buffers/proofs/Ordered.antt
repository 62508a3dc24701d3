-- Texts that are put in order together are as they are when they are put in order one by one.
use Rattle.std.proofs.Common.{◌≡◌, ◌∙◌, ◌||◌, ◌⊎◌, ℕ, true, List, [], ◌∷◌, map, fold, Contains, Option, Some, None, String, Global, string_bytes, string_cmp, nat_cmp, is_eq, inl, inr, refl, sym, ap, subst}
use Rattle.std.proofs.Math.Bool.{or-true}
use Rattle.std.proofs.lemmas.Bool.{cases_Bool}
use Rattle.std.proofs.lemmas.Cmp.{nat_list_cmp_total, tied_itself}
use Rattle.std.proofs.lemmas.Map.Lookups.{exact_bytes}
use Rattle.std.specs.Cmp.{Equal-is}
use Rattle.std.specs.Cmp.Lexicographic.{slice_cmp}
use Rattle.std.specs.List.{filter_map, list_any}
use Rattle.std.specs.List.Sorted.{IsStrictlySortedBy}
use Rattle.std.specs.Ordering.{eq_by_cmp, match_ordering}
use Rattle.tf_config_names.proofs.Rings.{sorted-bytes}
use Rattle.tf_config_names.specs.Texts.{put_text}
use Rattle.tf_state.proofs.Permuted.{contains_cases, contains_first, contains_later, contains_nothing, one_order, put_text-has, put_text-keeps, put_text-only, put_text-sorted}
use Rattle.tf_state.specs.Reading as state
use Rattle.tf_walk_buffers.specs.Dependencies.{put_all, with_address}

-- ---- one by one

abbrev IsInOrder : List (List ℕ) → Type 0
IsInOrder texts = IsStrictlySortedBy (slice_cmp nat_cmp) texts

nothing_in_order : IsInOrder []
unfolding IsStrictlySortedBy
nothing_in_order = tt

-- a state's texts are put in order in the same way
as_in_state : (texts : List (List ℕ)) (text : List ℕ) → put_text texts text ≡ state.put_text text texts
as_in_state [] text = refl
as_in_state (t ∷ texts) text = ap (λ rest. match_ordering (slice_cmp nat_cmp text t) (text ∷ t ∷ texts) (t ∷ texts) (t ∷ rest)) (as_in_state texts text)

in_order : (found texts : List (List ℕ)) → IsInOrder found → IsInOrder (fold put_text found texts)
in_order found [] h = h
in_order found (t ∷ texts) h = in_order (put_text found t) texts (subst IsInOrder (sym (as_in_state found t)) (put_text-sorted t found h))

kept : (found texts : List (List ℕ)) (text : List ℕ) → Contains found text ⊎ Contains texts text → Contains (fold put_text found texts) text
kept found [] text (inl old) = old
kept found [] text (inr new) = absurd (contains_nothing text new)
kept found (t ∷ texts) text (inl old) = kept (put_text found t) texts text (inl (subst (λ ts. Contains ts text) (sym (as_in_state found t)) (put_text-keeps t text found old)))
kept found (t ∷ texts) text (inr new) = elim (contains_cases t text texts new) [
  | inl here ↦ kept (put_text found t) texts text (inl (subst (Contains (put_text found t)) here (subst (λ ts. Contains ts t) (sym (as_in_state found t)) (put_text-has t found))))
  | inr later ↦ kept (put_text found t) texts text (inr later)
]

only : (found texts : List (List ℕ)) (text : List ℕ) → Contains (fold put_text found texts) text → Contains found text ⊎ Contains texts text
only found [] text c = inl c
only found (t ∷ texts) text c = elim (only (put_text found t) texts text c) [
  | inl old ↦ elim (put_text-only t text found (subst (λ ts. Contains ts text) (as_in_state found t) old)) [
    | inl new ↦ inr (contains_first t text texts new)
    | inr older ↦ inl older
  ]
  | inr later ↦ inr (contains_later t text texts later)
]

-- texts in order are what all of the same are when they are put in order
pub one_by_one : (keys texts : List (List ℕ)) → IsStrictlySortedBy (slice_cmp nat_cmp) keys → ((text : List ℕ) → Contains keys text → Contains texts text) → ((text : List ℕ) → Contains texts text → Contains keys text)
    → keys ≡ put_all texts
one_by_one keys texts h to from =
    one_order (slice_cmp nat_cmp) nat_list_cmp_total keys (put_all texts) h (in_order [] texts nothing_in_order)
    (λ text c. kept [] texts text (inr (to text c)))
    (λ text c. elim (only [] texts text c) [ inl old ↦ absurd (contains_nothing text old) | inr new ↦ from text new ])

-- ---- together

-- one that a search finds stands among the texts
found_text : (key : String Global) (keys : List (String Global)) → list_any (eq_by_cmp string_cmp key) keys ≡ true → Contains (map string_bytes keys) (string_bytes key)
found_text key [] h = absurd (cc)
found_text key (k ∷ keys) h = elim (cases_Bool (is_eq (string_cmp key k))) [
  | inl here ↦ contains_first (string_bytes k) (string_bytes key) (map string_bytes keys) (sym (exact_bytes (string_bytes key) (string_bytes k) ((Equal-is (string_cmp key k)).0 here)))
  | inr other ↦ contains_later (string_bytes k) (string_bytes key) (map string_bytes keys) (found_text key keys (sym (ap (λ b. b || list_any (eq_by_cmp string_cmp key) keys) other) ∙ h))
]

-- a text belongs to one that a search finds
key_of : (keys : List (String Global)) (text : List ℕ) → Contains (map string_bytes keys) text → (key : String Global) × (string_bytes key ≡ text) × (list_any (eq_by_cmp string_cmp key) keys ≡ true)
key_of [] text c = absurd (contains_nothing text c)
key_of (k ∷ keys) text c = elim (contains_cases (string_bytes k) text (map string_bytes keys) c) [
  | inl here ↦ (k, here, ap (λ b. b || list_any (eq_by_cmp string_cmp k) keys) (ap is_eq (tied_itself nat_list_cmp_total (string_bytes k))))
  | inr later ↦ let found = key_of keys text later in (found.0, found.1, ap (λ b. is_eq (string_cmp found.0 k) || b) found.2 ∙ or-true (is_eq (string_cmp found.0 k)))
]

-- the texts of a set that was made of a list
pub together : (keys texts : List (String Global)) → IsStrictlySortedBy string_cmp keys → ((key : String Global) → list_any (eq_by_cmp string_cmp key) keys ≡ list_any (eq_by_cmp string_cmp key) texts)
    → map string_bytes keys ≡ put_all (map string_bytes texts)
together keys texts h same =
    one_by_one (map string_bytes keys) (map string_bytes texts) (sorted-bytes keys h)
    (λ text c. let key = key_of keys text c in subst (Contains (map string_bytes texts)) key.1 (found_text key.0 texts (sym (same key.0) ∙ key.2)))
    (λ text c. let key = key_of texts text c in subst (Contains (map string_bytes keys)) key.1 (found_text key.0 keys (same key.0 ∙ key.2)))

-- ---- what a name adds

-- addresses that are put in order one by one
pub in_turn : {A : Type 0} (address : A → Option (List ℕ)) (found : List (List ℕ)) (xs : List A) → fold (λ (found : List (List ℕ)) (x : A). with_address (address x) found) found xs ≡ fold put_text found (filter_map address xs)
in_turn address found [] = refl
in_turn {A = A} address found (x ∷ xs) = by_address (address x) refl (λ before. in_turn address before xs)
  where
    by_address : (o : Option (List ℕ)) → address x ≡ o
        → ((before : List (List ℕ)) → fold (λ (found : List (List ℕ)) (x : A). with_address (address x) found) before xs ≡ fold put_text before (filter_map address xs))
        → fold (λ (found : List (List ℕ)) (x : A). with_address (address x) found) found (x ∷ xs) ≡ fold put_text found (filter_map address (x ∷ xs))
    by_address None e rest = rw e (rest found)
    by_address (Some text) e rest = rw e (rest (put_text found text))
