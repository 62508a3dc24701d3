-- The set of a list has exactly the list's texts.
use Rattle.std.proofs.Common.{◌≡◌, ◌⊎◌, ◌<◌, ℕ, zero, suc, List, [], ◌∷◌, length, Bool, true, false, cond, Option, Some, None, Ok, Ordering, Less, Equal, Greater, nat_cmp, is_eq, refl, sym, ap, ◌∙◌, subst, inl, inr, arith}
use Rattle.std.proofs.lemmas.Map.Text.{is_eq-slice_cmp}
use Rattle.std.proofs.lemmas.Slice.Eq.{bytes_eq-Decides}
use Rattle.std.specs.BTreeSet.{insert_key}
use Rattle.std.specs.Cmp.Lexicographic.{slice_cmp}
use Rattle.std.specs.List.{Contains, slice_index_or}
use Rattle.std.specs.List.Sorted.{IsStrictlySortedBy}
use Rattle.std.specs.Ordering.{match_ordering}
use Rattle.std.specs.Prelude.{◌↔◌}
use Rattle.tf_value_data.specs.Known.{known}
use Rattle.tf_value_data.specs.Tree.{Tree, null, text, list, set, unknown, Items, no_items, item, Entries, no_entries, entry, keys_of, put}
use Rattle.tf_value_data.proofs.Tables.{sorted-put}
use Rattle.tf_expr_operators.specs.Answer.{Answer}
use Rattle.tf_expr_operators.specs.Functions.{texts_with, texts_value, set_value, toset_value}
use Rattle.tf_expr_operators.specs.Laws.{IsAmong}
use Rattle.tf_expr_operators.proofs.Growth.{answered}

-- texts with one put in, at its place
abbrev with_text : List (List ℕ) → List ℕ → List (List ℕ)
with_text = insert_key (slice_cmp nat_cmp)

-- ---- in byte order

abbrev as_keys : List (List ℕ) → Entries
as_keys [] = no_entries
as_keys (s ∷ ss) = entry s null (as_keys ss)

as_keys-keys : (ss : List (List ℕ)) → keys_of (as_keys ss) ≡ ss
as_keys-keys [] = refl
as_keys-keys (s ∷ ss) = ap (λ ks. s ∷ ks) (as_keys-keys ss)

keys_at : (o : Ordering) (k l : List ℕ) (t u : Tree) (es more : Entries)
    → keys_of (match_ordering o (entry k t (entry l u es)) (entry l t es) (entry l u more)) ≡ match_ordering o (k ∷ l ∷ keys_of es) (l ∷ keys_of es) (l ∷ keys_of more)
keys_at Less k l t u es more = refl
keys_at Equal k l t u es more = refl
keys_at Greater k l t u es more = refl

keys_of-put : (k : List ℕ) (t : Tree) (es : Entries) → keys_of (put k t es) ≡ with_text (keys_of es) k
keys_of-put k t no_entries = refl
keys_of-put k t (entry l u es) = keys_at (slice_cmp nat_cmp k l) k l t u es (put k t es) ∙ rw (keys_of-put k t es) refl

sorted-with_text : (ss : List (List ℕ)) (s : List ℕ) → IsStrictlySortedBy (slice_cmp nat_cmp) ss → IsStrictlySortedBy (slice_cmp nat_cmp) (with_text ss s)
sorted-with_text ss s h =
    let as_put = sorted-put s null (as_keys ss) (subst (IsStrictlySortedBy (slice_cmp nat_cmp)) (sym (as_keys-keys ss)) h) in
    subst (IsStrictlySortedBy (slice_cmp nat_cmp)) (keys_of-put s null (as_keys ss) ∙ ap (λ ks. with_text ks s) (as_keys-keys ss)) as_put

some_texts : (ss us : List (List ℕ)) → Some ss ≡ Some us → ss ≡ us
some_texts ss us e = cc

sorted-texts_with : (ts : Items) (ss us : List (List ℕ)) → IsStrictlySortedBy (slice_cmp nat_cmp) ss → texts_with ss ts ≡ Some us → IsStrictlySortedBy (slice_cmp nat_cmp) us
sorted-texts_with no_items ss us h e = subst (IsStrictlySortedBy (slice_cmp nat_cmp)) (some_texts ss us e) h
sorted-texts_with (item (text s) ts) ss us h e = sorted-texts_with ts (with_text ss s) us (sorted-with_text ss s h) e
sorted-texts_with (item _ ts) ss us h e = absurd (cc)

-- ---- exactly the texts

abbrev IsIn : List ℕ → List (List ℕ) → Type 0
IsIn q [] = ⊥
IsIn q (s ∷ ss) = (s ≡ q) ⊎ IsIn q ss

in-contains : (ss : List (List ℕ)) (q : List ℕ) → IsIn q ss → Contains ss q
in-contains [] q h = absurd h
in-contains (s ∷ ss) q (inl e) = (0, omega arith, e)
in-contains (s ∷ ss) q (inr h) = let r = in-contains ss q h in (suc r.0, omega arith, r.2)

at-in : (ss : List (List ℕ)) (q : List ℕ) (k : ℕ) → k < length ss → slice_index_or ss k q ≡ q → IsIn q ss
at-in [] q k l e = absurd (omega arith)
at-in (s ∷ ss) q zero l e = inl e
at-in (s ∷ ss) q (suc k) l e = inr (at-in ss q k (omega arith) e)

in_at : (o : Ordering) (q s t : List ℕ) (ss more : List (List ℕ)) → slice_cmp nat_cmp s t ≡ o → IsIn q more ↔ ((s ≡ q) ⊎ IsIn q ss)
    → IsIn q (match_ordering o (s ∷ t ∷ ss) (t ∷ ss) (t ∷ more)) ↔ ((s ≡ q) ⊎ IsIn q (t ∷ ss))
in_at Less q s t ss more is h = (λ k. k, λ k. k)
in_at Equal q s t ss more is h =
    let same : s ≡ t = (bytes_eq-Decides s t).0 (sym (is_eq-slice_cmp s t) ∙ ap is_eq is) in
    (λ k. inr k, λ k. elim k [ inl e ↦ inl (sym same ∙ e) | inr m ↦ m ])
in_at Greater q s t ss more is h = (
  λ k. elim k [ inl e ↦ inr (inl e) | inr m ↦ elim (h.0 m) [ inl e ↦ inl e | inr n ↦ inr (inr n) ] ],
  λ k. elim k [ inl e ↦ inr (h.1 (inl e)) | inr m ↦ elim m [ inl e ↦ inl e | inr n ↦ inr (h.1 (inr n)) ] ],
)

in-with_text : (q s : List ℕ) (ss : List (List ℕ)) → IsIn q (with_text ss s) ↔ ((s ≡ q) ⊎ IsIn q ss)
in-with_text q s [] = (λ k. k, λ k. k)
in-with_text q s (t ∷ ss) = in_at (slice_cmp nat_cmp s t) q s t ss (with_text ss s) refl (in-with_text q s ss)

same_text : (s t : List ℕ) → text s ≡ text t → s ≡ t
same_text s t e = cc

in-texts_with : (q : List ℕ) (ts : Items) (ss us : List (List ℕ)) → texts_with ss ts ≡ Some us → IsIn q us ↔ (IsIn q ss ⊎ IsAmong (text q) ts)
in-texts_with q no_items ss us e =
    let same = some_texts ss us e in (
      λ k. inl (subst (IsIn q) (sym same) k),
      λ k. elim k [ inl h ↦ subst (IsIn q) same h | inr h ↦ absurd h ],
    )
in-texts_with q (item (text s) ts) ss us e =
    let later = in-texts_with q ts (with_text ss s) us e in let here = in-with_text q s ss in (
      λ k. elim (later.0 k) [
        | inl h ↦ elim (here.0 h) [ inl f ↦ inr (inl (ap text (sym f))) | inr g ↦ inl g ]
        | inr h ↦ inr (inr h)
      ],
      λ k. elim k [
        | inl h ↦ later.1 (inl (here.1 (inr h)))
        | inr h ↦ elim h [ inl f ↦ later.1 (inl (here.1 (inl (sym (same_text q s f))))) | inr g ↦ later.1 (inr g) ]
      ],
    )
in-texts_with q (item _ ts) ss us e = absurd (cc)

set_texts : (o : Option (List (List ℕ))) (us : List (List ℕ)) → texts_value o ≡ Ok (set us) → o ≡ Some us
set_texts None us e = absurd (cc)
set_texts (Some ss) us e = cc

if_known : (b : Bool) (a : Answer) (us : List (List ℕ)) → cond b a (answered unknown) ≡ Ok (set us) → a ≡ Ok (set us)
if_known true a us e = e
if_known false a us e = absurd (cc)

none_sorted : IsStrictlySortedBy {K = List ℕ} (slice_cmp nat_cmp) []
unfolding IsStrictlySortedBy
none_sorted = tt

pub toset-has_texts : (ts : Items) (us : List (List ℕ)) → toset_value (list ts) ≡ Ok (set us)
    → IsStrictlySortedBy (slice_cmp nat_cmp) us × ((s : List ℕ) → Contains us s ↔ IsAmong (text s) ts)
toset-has_texts ts us e =
    let is = set_texts (texts_with [] ts) us (if_known (known (list ts)) (set_value (list ts)) us e) in (
      sorted-texts_with ts [] us none_sorted is,
      λ s. let both = in-texts_with s ts [] us is in (
        λ h. elim (both.0 (at-in us s h.0 h.1 h.2)) [ inl none ↦ absurd none | inr k ↦ k ],
        λ h. in-contains us s (both.1 (inr h)),
      ),
    )
