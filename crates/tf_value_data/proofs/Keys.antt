-- Look-ups in entries to which one was put.
use Rattle.std.proofs.Common.{◌≡◌, ℕ, List, Bool, true, false, Some, Ordering, Less, Equal, Greater, nat_cmp, is_eq, cond, bytes_eq, refl, sym, ap, ◌∙◌}
use Rattle.std.proofs.lemmas.Map.Text.{is_eq-slice_cmp}
use Rattle.std.proofs.lemmas.Slice.Eq.{bytes_eq-Decides}
use Rattle.std.specs.Cmp.Lexicographic.{slice_cmp}
use Rattle.std.specs.Ordering.{match_ordering}
use Rattle.tf_value_data.specs.Tree.{Tree, Entries, no_entries, entry, get, put}

same_key : (k : List ℕ) → bytes_eq k k ≡ true
same_key k = (bytes_eq-Decides k k).1 refl

other_key : (b : Bool) (k l : List ℕ) → bytes_eq l k ≡ b → (l ≡ k → ⊥) → b ≡ false
other_key true k l e other = absurd (other ((bytes_eq-Decides l k).0 e))
other_key false k l e other = refl

skips : (k l : List ℕ) (t : Tree) (es : Entries) → (l ≡ k → ⊥) → get l (entry k t es) ≡ get l es
skips k l t es other = rw (other_key _ k l refl other)

put_at : (o : Ordering) (k l : List ℕ) (t u : Tree) (es : Entries) → slice_cmp nat_cmp k l ≡ o → get k (put k t es) ≡ Some t
    → get k (match_ordering o (entry k t (entry l u es)) (entry l t es) (entry l u (put k t es))) ≡ Some t
put_at Less k l t u es is later = rw (same_key k)
put_at Equal k l t u es is later = let e : bytes_eq k l ≡ true = sym (is_eq-slice_cmp k l) ∙ ap is_eq is in rw e
put_at Greater k l t u es is later = let e : bytes_eq k l ≡ false = sym (is_eq-slice_cmp k l) ∙ ap is_eq is in rw e later

-- what was put at a key stands there
pub get-put : (k : List ℕ) (t : Tree) (es : Entries) → get k (put k t es) ≡ Some t
get-put k t no_entries = rw (same_key k)
get-put k t (entry l u es) = put_at _ k l t u es refl (get-put k t es)

put_other_at : (o : Ordering) (k l m : List ℕ) (t u : Tree) (es : Entries) → slice_cmp nat_cmp k m ≡ o → (l ≡ k → ⊥) → get l (put k t es) ≡ get l es
    → get l (match_ordering o (entry k t (entry m u es)) (entry m t es) (entry m u (put k t es))) ≡ get l (entry m u es)
put_other_at Less k l m t u es is other later = skips k l t (entry m u es) other
put_other_at Equal k l m t u es is other later =
    let same : k ≡ m = (bytes_eq-Decides k m).0 (sym (is_eq-slice_cmp k m) ∙ ap is_eq is) in
    let apart = λ (h : l ≡ m). other (h ∙ sym same) in
    skips m l t es apart ∙ sym (skips m l u es apart)
put_other_at Greater k l m t u es is other later = ap (λ r. cond (bytes_eq l m) (Some u) r) later

-- the other keys keep what stood at them
pub get-put_other : (k l : List ℕ) (t : Tree) (es : Entries) → (l ≡ k → ⊥) → get l (put k t es) ≡ get l es
get-put_other k l t no_entries other = skips k l t no_entries other
get-put_other k l t (entry m u es) other = put_other_at _ k l m t u es refl other (get-put_other k l t es other)
