-- What is read of an array is what its items say, put in order.
use Rattle.std.proofs.Common.{◌≡◌, ℕ, ◌⊎◌, inl, inr, ⊎_elim, ◌↔◌, true, List, [], ◌∷◌, ◌++◌, Contains, IsPermutation, Option, Some, None, Ordering, nat_cmp, refl, sym, ap, ◌∙◌, subst, append-nil}
use Rattle.std.specs.Cmp.{IsTotalOrder}
use Rattle.std.specs.Cmp.Lexicographic.{slice_cmp}
use Rattle.std.specs.List.Sorted.{IsStrictlySortedBy}
use Rattle.std.specs.Prelude.{option_and_then}
use Rattle.std.proofs.lemmas.Cmp.{nat_list_cmp_total}
use Rattle.std.proofs.lemmas.List.Sorted.{Contains-permutation, IsPermutation-refl, IsPermutation-sym}
use Rattle.serde_json.specs.Data.{Data, Items, no_items, item, string}
use Rattle.tf_state.specs.Reading.{gather, put_new, put_text, address_in, addresses_in}
use Rattle.tf_state.specs.Table.{EachSays, HoldTheSame, IsArranged, SaysAddress}
use Rattle.tf_state.specs.Words.{is_address}
use Rattle.tf_state.proofs.Orders.{put_new-sorted, nothing_ordered}
use Rattle.tf_state.proofs.Permuted.{contains_cases, contains_first, contains_later, contains_nothing, first_is_free, moved_in, moved_out, one_order, put_new-free, put_new-permutes, put_text-has, put_text-keeps, put_text-only, put_text-sorted}
use Rattle.tf_state.proofs.Properties.{inverted, guarded}

same : {A : Type 0} (a b : A) → Some a ≡ Some b → a ≡ b
same a b e = cc

-- ---- items that are put in order, none twice

abbrev Onto : {A : Type 0} → (Data → A → Type 0) → (A → A → Ordering) → Items → List A → List A → Type 0
Onto {A} Says cmp ds found xs = (said : List A) × EachSays Says ds said × IsPermutation (said ++ found) xs × IsStrictlySortedBy cmp xs

gather-onto : {A : Type 0} (read_one : Data → Option A) (Says : Data → A → Type 0) (cmp : A → A → Ordering) → IsTotalOrder cmp → ((d : Data) (x : A) → read_one d ≡ Some x → Says d x)
    → (ds : Items) (found xs : List A) → IsStrictlySortedBy cmp found → gather read_one cmp ds found ≡ Some xs → Onto Says cmp ds found xs
gather-onto {A} read_one Says cmp total says no_items found xs s e =
    let is = same found xs e in ([], tt, subst (IsPermutation found) is (IsPermutation-refl found), subst (IsStrictlySortedBy cmp) is s)
gather-onto {A} read_one Says cmp total says (item d ds) found xs s e =
    let i = inverted (λ x. option_and_then (gather read_one cmp ds) (put_new cmp x found)) (read_one d) xs e in
    let j = inverted (gather read_one cmp ds) (put_new cmp i.0 found) xs i.2 in
    let later = gather-onto read_one Says cmp total says ds j.0 xs (put_new-sorted cmp total i.0 found j.0 s j.1) j.2 in
    (i.0 ∷ later.0, (says d i.0 i.1, later.1), moved_out i.0 later.0 found j.0 xs (put_new-permutes cmp i.0 found j.0 j.1) later.2, later.3)

-- what is read is said
pub gathered-says : {A : Type 0} (read_one : Data → Option A) (Says : Data → A → Type 0) (cmp : A → A → Ordering) → IsTotalOrder cmp → ((d : Data) (x : A) → read_one d ≡ Some x → Says d x)
    → (ds : Items) (xs : List A) → gather read_one cmp ds [] ≡ Some xs → (said : List A) × EachSays Says ds said × IsArranged cmp said xs
gathered-says read_one Says cmp total says ds xs e =
    let all = gather-onto read_one Says cmp total says ds [] xs (nothing_ordered cmp) e in (all.0, all.1, (subst (λ ys. IsPermutation ys xs) (append-nil all.0) all.2, all.3))

put_next : {A : Type 0} (go : List A → Option (List A)) (new : Option (List A)) (xs : List A) → (new ≡ None → ⊥) → ((ys : List A) → new ≡ Some ys → go ys ≡ Some xs) → option_and_then go new ≡ Some xs
put_next go None xs free more = absurd (free refl)
put_next go (Some ys) xs free more = more ys refl

onto-gather : {A : Type 0} (read_one : Data → Option A) (Says : Data → A → Type 0) (cmp : A → A → Ordering) → IsTotalOrder cmp → ((d : Data) (x : A) → Says d x → read_one d ≡ Some x)
    → (ds : Items) (said found xs : List A) → IsStrictlySortedBy cmp found → EachSays Says ds said → IsPermutation (said ++ found) xs → IsStrictlySortedBy cmp xs → gather read_one cmp ds found ≡ Some xs
onto-gather read_one Says cmp total reads no_items [] found xs s h p t =
    ap Some (one_order cmp total found xs s t (λ z c. Contains-permutation found xs z p c) (λ z c. Contains-permutation xs found z (IsPermutation-sym found xs p) c))
onto-gather read_one Says cmp total reads (item d ds) (x ∷ said) found xs s h p t =
    ap (λ o. option_and_then (λ y. option_and_then (gather read_one cmp ds) (put_new cmp y found)) o) (reads d x h.0)
    ∙ put_next (gather read_one cmp ds) (put_new cmp x found) xs (put_new-free cmp x found (first_is_free cmp total x said found xs p t))
    (λ ys e. onto-gather read_one Says cmp total reads ds said ys xs (put_new-sorted cmp total x found ys s e) h.1 (moved_in x said found ys xs (put_new-permutes cmp x found ys e) p) t)
onto-gather _ _ _ total reads no_items (x ∷ said) found xs s h p t = absurd (assumption)
onto-gather _ _ _ total reads (item d ds) [] found xs s h p t = absurd (assumption)

-- what is said is read
pub gathered-said : {A : Type 0} (read_one : Data → Option A) (Says : Data → A → Type 0) (cmp : A → A → Ordering) → IsTotalOrder cmp → ((d : Data) (x : A) → Says d x → read_one d ≡ Some x)
    → (ds : Items) (said xs : List A) → EachSays Says ds said → IsArranged cmp said xs → gather read_one cmp ds [] ≡ Some xs
gathered-said read_one Says cmp total reads ds said xs h a =
    onto-gather read_one Says cmp total reads ds said [] xs (nothing_ordered cmp) h (subst (λ ys. IsPermutation ys xs) (sym (append-nil said)) a.0) a.1

-- ---- addresses, some of which may stand twice

pub address-says : (d : Data) (s : List ℕ) → address_in d ≡ Some s → SaysAddress d s
address-says (string t) s e = let g = guarded (is_address t) (Some t) s e in let is = same t s g.1 in (ap string is, subst (λ u. is_address u ≡ true) is g.0)
address-says _ s e = absurd (cc)

pub address-said : (d : Data) (s : List ℕ) → SaysAddress d s → address_in d ≡ Some s
address-said d s h = ap address_in h.0 ∙ rw h.1 refl

-- one list holds what two others hold
abbrev HoldsBoth : List (List ℕ) → List (List ℕ) → List (List ℕ) → Type 0
HoldsBoth xs ys all = (u : List ℕ) → (Contains xs u ⊎ Contains ys u) ↔ Contains all u

both_put : (s : List ℕ) (xs ys all : List (List ℕ)) → HoldsBoth xs (put_text s ys) all → HoldsBoth (s ∷ xs) ys all
both_put s xs ys all h u = (
  ⊎_elim
      (λ c. ⊎_elim (λ e. (h u).0 (inr (subst (Contains (put_text s ys)) e (put_text-has s ys)))) (λ l. (h u).0 (inl l)) (contains_cases s u xs c))
      (λ c. (h u).0 (inr (put_text-keeps s u ys c))),
  λ c. ⊎_elim (λ l. inl (contains_later s u xs l)) (λ l. ⊎_elim (λ e. inl (contains_first s u xs e)) (λ k. inr k) (put_text-only s u ys l)) ((h u).1 c),
)

put_both : (s : List ℕ) (xs ys all : List (List ℕ)) → HoldsBoth (s ∷ xs) ys all → HoldsBoth xs (put_text s ys) all
put_both s xs ys all h u = (
  ⊎_elim (λ c. (h u).0 (inl (contains_later s u xs c))) (λ c. ⊎_elim (λ e. (h u).0 (inl (contains_first s u xs e))) (λ k. (h u).0 (inr k)) (put_text-only s u ys c)),
  λ c. ⊎_elim
      (λ l. ⊎_elim (λ e. inr (subst (Contains (put_text s ys)) e (put_text-has s ys))) (λ k. inl k) (contains_cases s u xs l))
      (λ l. inr (put_text-keeps s u ys l)) ((h u).1 c),
)

abbrev AddressesOnto : Items → List (List ℕ) → List (List ℕ) → Type 0
AddressesOnto ds found ts = (said : List (List ℕ)) × EachSays SaysAddress ds said × HoldsBoth said found ts × IsStrictlySortedBy (slice_cmp nat_cmp) ts

addresses-onto : (ds : Items) (found ts : List (List ℕ)) → IsStrictlySortedBy (slice_cmp nat_cmp) found → addresses_in ds found ≡ Some ts → AddressesOnto ds found ts
addresses-onto no_items found ts s e =
    let is = same found ts e in
    ([], tt, (λ u. (⊎_elim (λ c. absurd (contains_nothing u c)) (λ c. subst (λ us. Contains us u) is c), λ c. inr (subst (λ us. Contains us u) (sym is) c))), subst (IsStrictlySortedBy (slice_cmp nat_cmp)) is s)
addresses-onto (item d ds) found ts s e =
    let i = inverted (λ t. addresses_in ds (put_text t found)) (address_in d) ts e in
    let later = addresses-onto ds (put_text i.0 found) ts (put_text-sorted i.0 found s) i.2 in
    (i.0 ∷ later.0, (address-says d i.0 i.1, later.1), both_put i.0 later.0 found ts later.2, later.3)

pub addresses-say : (ds : Items) (ts : List (List ℕ)) → addresses_in ds [] ≡ Some ts → (said : List (List ℕ)) × EachSays SaysAddress ds said × HoldTheSame said ts × IsStrictlySortedBy (slice_cmp nat_cmp) ts
addresses-say ds ts e =
    let all = addresses-onto ds [] ts (nothing_ordered (slice_cmp nat_cmp)) e in
    (all.0, all.1, (λ u. (λ c. (all.2 u).0 (inl c), λ c. ⊎_elim (λ k. k) (λ k. absurd (contains_nothing u k)) ((all.2 u).1 c))), all.3)

onto-addresses : (ds : Items) (said found ts : List (List ℕ)) → IsStrictlySortedBy (slice_cmp nat_cmp) found → EachSays SaysAddress ds said → HoldsBoth said found ts → IsStrictlySortedBy (slice_cmp nat_cmp) ts → addresses_in ds found ≡ Some ts
onto-addresses no_items [] found ts s h both t =
    ap Some (one_order (slice_cmp nat_cmp) nat_list_cmp_total found ts s t (λ z c. (both z).0 (inr c)) (λ z c. ⊎_elim (λ k. absurd (contains_nothing z k)) (λ k. k) ((both z).1 c)))
onto-addresses (item d ds) (x ∷ said) found ts s h both t =
    ap (λ o. option_and_then (λ u. addresses_in ds (put_text u found)) o) (address-said d x h.0)
    ∙ onto-addresses ds said (put_text x found) ts (put_text-sorted x found s) h.1 (put_both x said found ts both) t
onto-addresses no_items (x ∷ said) found ts s h both t = absurd (assumption)
onto-addresses (item d ds) [] found ts s h both t = absurd (assumption)

pub addresses-said : (ds : Items) (said ts : List (List ℕ)) → EachSays SaysAddress ds said → HoldTheSame said ts → IsStrictlySortedBy (slice_cmp nat_cmp) ts → addresses_in ds [] ≡ Some ts
addresses-said ds said ts h held t =
    onto-addresses ds said [] ts (nothing_ordered (slice_cmp nat_cmp)) h (λ u. (⊎_elim (λ c. (held u).0 c) (λ c. absurd (contains_nothing u c)), λ c. inl ((held u).1 c))) t
