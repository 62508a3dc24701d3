-- A `BTreeMap` of expressions beside the entries that it stands for.
use Rattle.std.proofs.Common.{◌≡◌, ℕ, Bool, true, false, cond, Bor, Option, Some, None, option_map, is_eq, List, [], ◌∷◌, ◌++◌, String, Global, Ordering, Less, Equal, Greater, string_bytes, string_cmp, nat_cmp, refl, sym, ap, ◌∙◌, subst, append_assoc}
use Rattle.std.proofs.lemmas.Cmp.{nat_list_cmp_total}
use Rattle.std.proofs.lemmas.Map.Text.{is_eq-slice_cmp}
use Rattle.std.specs.Cmp.Lexicographic.{slice_cmp}
use Rattle.std.specs.List.Sorted.{IsStrictlySortedBy}
use Rattle.std.specs.Map.{keys_of, lookup}
use Rattle.std.specs.Ordering.{match_ordering, ordering_reverse}
use Rattle.std.specs.BTreeMap.{insert_entry, is_at}
use Rattle.std.specs.List.{AllByRecursion}
use Rattle.tf_expr_syntax.specs.ExprTree.{Tree, Entries, entry, get, put, tree_of, entries_view}
use Rattle.tf_expr_syntax.specs.declared.expr.Expr.{Expr}

abbrev pub Entry : Type 0
Entry = String Global × Expr

entries_view-match_ordering : (o : Ordering) (a b c : List Entry) → entries_view (match_ordering o a b c) ≡ match_ordering o (entries_view a) (entries_view b) (entries_view c)
entries_view-match_ordering Less a b c = refl
entries_view-match_ordering Equal a b c = refl
entries_view-match_ordering Greater a b c = refl

found_or : (b : Bool) (e : Expr) (rest : Option Expr) (r : Option Tree) → option_map tree_of rest ≡ r → option_map tree_of (cond b (Some e) rest) ≡ cond b (Some (tree_of e)) r
found_or true e rest r h = refl
found_or false e rest r h = h

-- what a look-up finds in a `BTreeMap<String, Expr>`
pub tree_of-lookup : (name : List ℕ) (es : List Entry) → option_map tree_of (lookup (is_at (λ k. slice_cmp nat_cmp name (string_bytes k))) es) ≡ get name (entries_view es)
tree_of-lookup name [] = refl
tree_of-lookup name (e ∷ es) = rw (← is_eq-slice_cmp name (string_bytes e.0)) (found_or (is_eq (slice_cmp nat_cmp name (string_bytes e.0))) e.1 _ _ (tree_of-lookup name es))

pub tree_of_ref : (r : Option (Bor Expr)) → option_map (λ e. tree_of e.now) r ≡ option_map tree_of (option_map (λ e. e.now) r)
tree_of_ref None = refl
tree_of_ref (Some e) = refl

-- what an insert into a `BTreeMap<String, Expr>` leaves
pub entries_view-insert_entry : (es : List Entry) (k : String Global) (e : Expr) → entries_view (insert_entry string_cmp es k e) ≡ put (string_bytes k) (tree_of e) (entries_view es)
entries_view-insert_entry [] k e = refl
entries_view-insert_entry (x ∷ es) k e = entries_view-match_ordering (string_cmp k x.0) _ _ _ ∙ rw (entries_view-insert_entry es k e)

below_middle : {V : Type 0} (k : String Global) (done : List (String Global × V)) (e : String Global × V) (more : List (String Global × V))
    → AllByRecursion (λ y. string_cmp k y ≡ Less) (keys_of (done ++ e ∷ more)) → string_cmp k e.0 ≡ Less
below_middle k [] e more h = h.0
below_middle k (x ∷ done) e more h = below_middle k done e more h.1

-- a name stands above those before it
pub is_above : {V : Type 0} (first : String Global × V) (done : List (String Global × V)) (e : String Global × V) (more : List (String Global × V)) → IsStrictlySortedBy string_cmp (keys_of (first ∷ done ++ e ∷ more))
    → slice_cmp nat_cmp (string_bytes e.0) (string_bytes first.0) ≡ Greater
unfolding IsStrictlySortedBy
is_above first done e more h =
    nat_list_cmp_total.antisymm (string_bytes e.0) (string_bytes first.0) ∙ ap ordering_reverse (below_middle first.0 done e more h.0)

-- an entry whose name is above those before it goes last
pub put_last : (done : List Entry) (e : Entry) (more : List Entry) → IsStrictlySortedBy string_cmp (keys_of (done ++ e ∷ more))
    → put (string_bytes e.0) (tree_of e.1) (entries_view done) ≡ entries_view (done ++ e ∷ [])
unfolding IsStrictlySortedBy
put_last [] e more h = refl
put_last (first ∷ done) e more h =
    rw (is_above first done e more h) (ap (entry (string_bytes first.0) (tree_of first.1)) (put_last done e more h.1))

-- entries of which those before some are seen as trees, in order
abbrev pub ViewedBefore : List Entry → List Entry → Entries → Type 0
ViewedBefore es left so_far = (done : List Entry) × (es ≡ done ++ left) × (so_far ≡ entries_view done)

-- one entry more of a map that is gone through, put into another
pub viewed_more : (es rest left : List Entry) (e : Entry) (so_far now : List Entry) (k : String Global) (copy : Expr)
    → IsStrictlySortedBy string_cmp (keys_of es) → rest ≡ e ∷ left → now ≡ insert_entry string_cmp so_far k copy → string_bytes k ≡ string_bytes e.0 → tree_of copy ≡ tree_of e.1
    → ViewedBefore es rest (entries_view so_far) → ViewedBefore es left (entries_view now)
viewed_more es rest left e so_far now k copy sorted step is named same before =
    let all : es ≡ before.0 ++ e ∷ left = before.1 ∙ ap (λ xs. before.0 ++ xs) step in
    let last = put_last before.0 e left (subst (λ xs. IsStrictlySortedBy string_cmp (keys_of xs)) all sorted) in
    (before.0 ++ e ∷ [], all ∙ sym (append_assoc before.0 (e ∷ []) left), ap entries_view is ∙ entries_view-insert_entry so_far k copy ∙ rw (named, same, before.2) last)
