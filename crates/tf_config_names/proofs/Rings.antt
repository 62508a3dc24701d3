-- The names that need themselves, and their texts in byte order.
use Rattle.std.proofs.Common.{◌≡◌, ◌<◌, ◌+◌, ◌⊎◌, ℕ, zero, suc, Bool, true, false, cond, Some, List, [], ◌∷◌, length, map, String, Global, string_bytes, string_cmp, nat_cmp, is_eq, Ordering, Less, Equal, Greater, inl, inr, refl, sym, ap, ◌∙◌, subst, arith}
use Rattle.std.proofs.lemmas.Bool.{cases_eq}
use Rattle.std.proofs.lemmas.Map.Text.{is_eq-slice_cmp}
use Rattle.std.specs.BTreeSet.{insert_key}
use Rattle.std.specs.Cmp.Lexicographic.{slice_cmp}
use Rattle.std.specs.List.{AllByRecursion}
use Rattle.std.specs.List.Sorted.{IsStrictlySortedBy}
use Rattle.std.specs.Ordering.{match_ordering}
use Rattle.std.specs.Prelude.{Contains, slice_get}
use Rattle.tf_config_data.specs.Names.{NameView, same_pair, place_of}
use Rattle.tf_graph.proofs.Edges.{contains_head, contains_tail, contains_cases}
use Rattle.tf_config_names.proofs.Edging.{place_of-below}
use Rattle.tf_config_names.proofs.Needing.{bytes_eq-same, same_pair-same, needs-declared, none_contained, place_cases}
use Rattle.tf_config_names.specs.Needs.{pair_text, name_at, needs_in, AreCyclic, IsAcyclic, IsDependence, Needs}
use Rattle.tf_config_names.specs.Texts.{put_text}
use Rattle.tf_config_names.specs.declared.dependence.Dependence.{Dependence}
use Rattle.tf_expr_syntax.specs.TemplateNames.{Pair}

-- ---- texts in order

map-match_ordering : {A B : Type 0} (f : A → B) (o : Ordering) (a b c : List A) → map f (match_ordering o a b c) ≡ match_ordering o (map f a) (map f b) (map f c)
map-match_ordering f Less a b c = refl
map-match_ordering f Equal a b c = refl
map-match_ordering f Greater a b c = refl

-- a text that goes into a set
pub put_text-map : (keys : List (String Global)) (key : String Global) → map string_bytes (insert_key string_cmp keys key) ≡ put_text (map string_bytes keys) (string_bytes key)
put_text-map [] key = refl
put_text-map (k ∷ keys) key = map-match_ordering string_bytes (string_cmp key k) _ _ _ ∙ rw (put_text-map keys key)

same_text : (a b : List ℕ) → slice_cmp nat_cmp a b ≡ Equal → a ≡ b
same_text a b h = bytes_eq-same a b (sym (is_eq-slice_cmp a b) ∙ ap is_eq h)

pub put_text-new : (texts : List (List ℕ)) (text : List ℕ) → Contains (put_text texts text) text
put_text-new [] text = contains_head text text [] refl
put_text-new (t ∷ texts) text = by_order (slice_cmp nat_cmp text t) refl (put_text-new texts text)
  where
    by_order : (o : Ordering) → slice_cmp nat_cmp text t ≡ o → Contains (put_text texts text) text → Contains (match_ordering o (text ∷ t ∷ texts) (t ∷ texts) (t ∷ put_text texts text)) text
    by_order Less e rest = contains_head text text (t ∷ texts) refl
    by_order Equal e rest = contains_head text t texts (sym (same_text text t e))
    by_order Greater e rest = contains_tail text t (put_text texts text) rest

pub put_text-old : (texts : List (List ℕ)) (text other : List ℕ) → Contains texts other → Contains (put_text texts text) other
put_text-old [] text other c = contains_tail other text [] c
put_text-old (t ∷ texts) text other c = by_order (slice_cmp nat_cmp text t) (put_text-old texts text other)
  where
    by_order : (o : Ordering) → (Contains texts other → Contains (put_text texts text) other) → Contains (match_ordering o (text ∷ t ∷ texts) (t ∷ texts) (t ∷ put_text texts text)) other
    by_order Less rest = contains_tail other text (t ∷ texts) c
    by_order Equal rest = c
    by_order Greater rest = elim (contains_cases other t texts c) [
      | inl here ↦ contains_head other t (put_text texts text) here
      | inr later ↦ contains_tail other t (put_text texts text) (rest later)
    ]

pub put_text-cases : (texts : List (List ℕ)) (text other : List ℕ) → Contains (put_text texts text) other → (text ≡ other) ⊎ Contains texts other
put_text-cases [] text other c = contains_cases other text [] c
put_text-cases (t ∷ texts) text other c = by_order (slice_cmp nat_cmp text t) c (put_text-cases texts text other)
  where
    by_order : (o : Ordering) → Contains (match_ordering o (text ∷ t ∷ texts) (t ∷ texts) (t ∷ put_text texts text)) other → (Contains (put_text texts text) other → (text ≡ other) ⊎ Contains texts other) → (text ≡ other) ⊎ Contains (t ∷ texts) other
    by_order Less d rest = contains_cases other text (t ∷ texts) d
    by_order Equal d rest = inr d
    by_order Greater d rest = elim (contains_cases other t (put_text texts text) d) [
      | inl here ↦ inr (contains_head other t texts here)
      | inr later ↦ elim (rest later) [ inl new ↦ inl new | inr old ↦ inr (contains_tail other t texts old) ]
    ]

all_bytes : (key : String Global) (keys : List (String Global)) → AllByRecursion (λ k. string_cmp key k ≡ Less) keys → AllByRecursion (λ t. slice_cmp nat_cmp (string_bytes key) t ≡ Less) (map string_bytes keys)
all_bytes key [] h = tt
all_bytes key (k ∷ keys) h = (h.0, all_bytes key keys h.1)

pub sorted-bytes : (keys : List (String Global)) → IsStrictlySortedBy string_cmp keys → IsStrictlySortedBy (slice_cmp nat_cmp) (map string_bytes keys)
unfolding IsStrictlySortedBy
sorted-bytes [] h = tt
sorted-bytes (k ∷ keys) h = (all_bytes k keys h.0, sorted-bytes keys h.1)

-- ---- names at places

pub name_at-get : (names : List NameView) (k : ℕ) (n : NameView) → slice_get names k ≡ Some n → name_at names k ≡ n.name
name_at-get [] k n h = absurd (cc)
name_at-get (m ∷ names) zero n h = let same : m ≡ n = cc in ap (λ (x : NameView). x.name) same
name_at-get (m ∷ names) (suc k) n h = name_at-get names k n h

pub name_at-place : (names : List NameView) (p : Pair) (k : ℕ) → place_of names p ≡ Some k → name_at names k ≡ p
name_at-place [] p k h = absurd (cc)
name_at-place (n ∷ ns) p k h = elim (place_cases (same_pair n.name p) (place_of ns p) k h) [
  | inl first ↦ rw first.1 (same_pair-same n.name p first.0)
  | inr later ↦ rw later.1.2 (name_at-place ns p later.1.0 later.1.1)
]

-- ---- those that need themselves

-- the texts of those among the first names that need themselves
pub record AreNoted (names : List NameView) (d : Dependence) (upto : ℕ) (texts : List (List ℕ)) : Type 0 where
  pub found : (k : ℕ) → k < upto → needs_in d k k ≡ true → Contains texts (pair_text (name_at names k))
  pub led : (text : List ℕ) → Contains texts text → (k : ℕ) × (needs_in d k k ≡ true) × (pair_text (name_at names k) ≡ text)

pub noted-none : (names : List NameView) (d : Dependence) → AreNoted names d 0 []
noted-none names d = record { found = λ k h. absurd (omega arith); led = λ text c. absurd (none_contained text c) }

pub noted-more : (names : List NameView) (d : Dependence) (upto : ℕ) (texts next : List (List ℕ)) (n : NameView) → slice_get names upto ≡ Some n
    → next ≡ cond (needs_in d upto upto) (put_text texts (pair_text n.name)) texts → AreNoted names d upto texts → AreNoted names d (upto + 1) next
noted-more names d upto texts next n at step h =
    subst (AreNoted names d (upto + 1)) (sym step) (subst (λ p. AreNoted names d (upto + 1) (cond (needs_in d upto upto) (put_text texts (pair_text p)) texts)) (name_at-get names upto n at) (by_test (needs_in d upto upto) refl))
  where
    by_test : (b : Bool) → needs_in d upto upto ≡ b → AreNoted names d (upto + 1) (cond b (put_text texts (pair_text (name_at names upto))) texts)
    by_test true e = record {
      found = λ k below is. elim (cases_eq k upto) [
        | inl here ↦ rw here (put_text-new texts (pair_text (name_at names upto)))
        | inr other ↦ put_text-old texts (pair_text (name_at names upto)) (pair_text (name_at names k)) (h.found k (omega arith) is)
      ];
      led = λ t c. elim (put_text-cases texts (pair_text (name_at names upto)) t c) [ inl new ↦ (upto, e, new) | inr old ↦ h.led t old ];
    }
    by_test false e = record {
      found = λ k below is. elim (cases_eq k upto) [
        | inl here ↦ absurd (let no : true ≡ false = sym is ∙ (rw here e) in cc)
        | inr other ↦ h.found k (omega arith) is
      ];
      led = h.led;
    }

pub noted-cyclic : (names : List NameView) (d : Dependence) (upto : ℕ) (keys list : List (String Global)) → length names ≡ upto → IsDependence names d → AreNoted names d upto (map string_bytes keys) → list ≡ keys → IsStrictlySortedBy string_cmp list → AreCyclic names (map string_bytes list)
noted-cyclic names d upto keys list all is h same sorted = subst (λ ks. AreCyclic names (map string_bytes ks)) (sym same) (record {
  in_order = sorted-bytes keys (subst (IsStrictlySortedBy string_cmp) same sorted);
  found = λ pair needs.
      let place = needs-declared names pair pair needs in
      let below : place.0 < length names = place_of-below names pair place.0 place.1 in
      subst (λ p. Contains (map string_bytes keys) (pair_text p)) (name_at-place names pair place.0 place.1)
      (h.found place.0 (omega arith) ((is.needed pair pair place.0 place.0 place.1 place.1).1 needs));
  led = λ text c.
      let k = h.led text c in
      let n = is.named k.0 k.0 k.1 in
      (n.0, (is.needed n.0 n.0 k.0 k.0 n.1 n.1).0 k.1, ap pair_text (sym (name_at-place names n.0 k.0 n.1)) ∙ k.2);
})

-- where no name needs itself, no place does
pub places-acyclic : (names : List NameView) (d : Dependence) → IsDependence names d → ((pair : Pair) → Needs names pair pair → ⊥) → IsAcyclic d
places-acyclic names d is none n = by_test (needs_in d n n) refl
  where
    by_test : (b : Bool) → needs_in d n n ≡ b → b ≡ false
    by_test false e = refl
    by_test true e = let named = is.named n n e in absurd (none named.0 ((is.needed named.0 named.0 n n named.1 named.1).0 e))

-- where no texts are found, no place needs itself
pub acyclic-no_texts : (names : List NameView) (d : Dependence) (keys : List (String Global)) → IsDependence names d → AreCyclic names (map string_bytes keys) → length keys ≡ 0 → IsAcyclic d
acyclic-no_texts names d [] is cyclic h = places-acyclic names d is (λ pair needs. none_contained (pair_text pair) (cyclic.found pair needs))
acyclic-no_texts names d (k ∷ keys) is cyclic h = absurd (omega (arith, h))

pub some_texts : (keys : List (String Global)) → (length keys ≡ 0 → ⊥) → map string_bytes keys ≡ [] → ⊥
some_texts [] h e = h refl
some_texts (k ∷ keys) h e = absurd (cc)
