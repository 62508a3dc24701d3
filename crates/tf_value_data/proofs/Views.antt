-- A value, level by level, and a `BTreeMap` beside the entries that it stands for.
use Rattle.std.proofs.Common.{◌≡◌, ℕ, List, [], ◌∷◌, ◌++◌, Option, Some, None, option_map, String, Vec, BTreeMap, BTreeSet, Global, Bor, Ordering, Less, Equal, Greater, string_bytes, string_cmp, nat_cmp, is_eq, cond, map as each, refl, sym, ap, ◌∙◌, subst, append_assoc, rules}
use Rattle.std.proofs.lemmas.Cmp.{nat_list_cmp_total}
use Rattle.std.proofs.lemmas.List.{append-nil}
use Rattle.std.proofs.lemmas.Map.Made.{lookup-map_values}
use Rattle.std.proofs.lemmas.Map.Text.{is_eq-slice_cmp}
use Rattle.std.specs.Cmp.Lexicographic.{slice_cmp}
use Rattle.std.specs.List.{AllByRecursion}
use Rattle.std.specs.List.Sorted.{IsStrictlySortedBy}
use Rattle.std.specs.Map.{keys_of, lookup}
use Rattle.std.specs.Ordering.{match_ordering, ordering_reverse}
use Rattle.std.specs.BTreeMap.{insert_entry, is_at}
use Rattle.tf_value_data.specs.Tree.{Tree, text, list, map, set, item, Entries, entry, get, put, entries_of, tree_of, items_view, entries_view, texts_view, text_items}
use Rattle.tf_value_data.specs.declared.value.Value.{Value, Text as Worded, List as Listed, Map as Mapped, Set as Texts, the_lemmas}

abbrev pub Entry : Type 0
Entry = String Global × Value

pub tree_of-List : (v : Vec Value Global) → tree_of (Listed v) ≡ list (items_view v.items)
tree_of-List v = search (rules, the_lemmas)

pub tree_of-Map : (m : BTreeMap (String Global) Value) → tree_of (Mapped m) ≡ map (entries_view m.entries)
tree_of-Map m = search (rules, the_lemmas)

pub tree_of-Set : (s : BTreeSet (String Global)) → tree_of (Texts s) ≡ set (texts_view s.keys)
tree_of-Set s = search (rules, the_lemmas)

-- what a look-up finds among trees
get-lookup : (key : List ℕ) (es : List (String Global × Tree)) → lookup (is_at (λ k. slice_cmp nat_cmp key (string_bytes k))) es ≡ get key (entries_of es)
get-lookup key [] = refl
get-lookup key (e ∷ es) = rw (← is_eq-slice_cmp key (string_bytes e.0)) (ap (cond (is_eq (slice_cmp nat_cmp key (string_bytes e.0))) (Some e.1)) (get-lookup key es))

-- what a look-up finds in a `BTreeMap<String, Value>`
pub tree_of-lookup : (key : List ℕ) (es : List Entry) → option_map tree_of (lookup (is_at (λ k. slice_cmp nat_cmp key (string_bytes k))) es) ≡ get key (entries_view es)
tree_of-lookup key es = sym (lookup-map_values tree_of (is_at (λ k. slice_cmp nat_cmp key (string_bytes k))) es) ∙ get-lookup key (each (λ e. (e.0, tree_of e.1)) es)

entries_view-match_ordering : (o : Ordering) (a b c : List Entry) → entries_view (match_ordering o a b c) ≡ match_ordering o (entries_view a) (entries_view b) (entries_view c)
entries_view-match_ordering Less a b c = refl
entries_view-match_ordering Equal a b c = refl
entries_view-match_ordering Greater a b c = refl

-- what an insert into a `BTreeMap<String, Value>` leaves
pub entries_view-insert_entry : (es : List Entry) (k : String Global) (v : Value) → entries_view (insert_entry string_cmp es k v) ≡ put (string_bytes k) (tree_of v) (entries_view es)
entries_view-insert_entry [] k v = refl
entries_view-insert_entry (e ∷ es) k v = entries_view-match_ordering (string_cmp k e.0) _ _ _ ∙ rw (entries_view-insert_entry es k v)

-- entries whose values stand for trees by a function
abbrev pub shown : {V : Type 0} → (V → Tree) → List (String Global × V) → Entries
shown f es = entries_of (each (λ e. (e.0, f e.1)) es)

pub below_middle : {V : Type 0} (k : String Global) (es : List (String Global × V)) (e : String Global × V) (more : List (String Global × V)) → AllByRecursion (λ y. string_cmp k y ≡ Less) (keys_of (es ++ e ∷ more)) → string_cmp k e.0 ≡ Less
below_middle k [] e more h = h.0
below_middle k (x ∷ es) e more h = below_middle k es e more h.1

-- a key that is above those before it goes last
pub put_last : {V : Type 0} (f : V → Tree) (done : List (String Global × V)) (e : String Global × V) (more : List (String Global × V)) → IsStrictlySortedBy string_cmp (keys_of (done ++ e ∷ more))
    → put (string_bytes e.0) (f e.1) (shown f done) ≡ shown f (done ++ e ∷ [])
unfolding IsStrictlySortedBy
put_last f [] e more h = refl
put_last f (first ∷ done) e more h =
    let above : slice_cmp nat_cmp (string_bytes e.0) (string_bytes first.0) ≡ Greater =
    nat_list_cmp_total.antisymm (string_bytes e.0) (string_bytes first.0) ∙ ap ordering_reverse (below_middle first.0 done e more h.0) in
    rw above (ap (entry (string_bytes first.0) (f first.1)) (put_last f done e more h.1))

-- entries of which those before some are shown, in order
abbrev pub ShownBefore : {V : Type 0} → (V → Tree) → List (String Global × V) → List (String Global × V) → Entries → Type 0
ShownBefore {V} f es left so_far = (done : List (String Global × V)) × (es ≡ done ++ left) × (so_far ≡ shown f done)

-- one entry more of a map that is gone through, put into another
pub shown_more : {V : Type 0} (f : V → Tree) (es rest left : List (String Global × V)) (e : String Global × V) (so_far now : List Entry) (k : String Global) (v : Value)
    → IsStrictlySortedBy string_cmp (keys_of es) → rest ≡ e ∷ left → now ≡ insert_entry string_cmp so_far k v → string_bytes k ≡ string_bytes e.0 → tree_of v ≡ f e.1
    → ShownBefore f es rest (entries_view so_far) → ShownBefore f es left (entries_view now)
shown_more f es rest left e so_far now k v sorted step is named same before =
    let all : es ≡ before.0 ++ e ∷ left = before.1 ∙ ap (λ xs. before.0 ++ xs) step in
    let last = put_last f before.0 e left (subst (λ xs. IsStrictlySortedBy string_cmp (keys_of xs)) all sorted) in
    (before.0 ++ e ∷ [], all ∙ sym (append_assoc before.0 (e ∷ []) left), ap entries_view is ∙ entries_view-insert_entry so_far k v ∙ rw (named, same, before.2) last)

-- all entries of a map were gone through
pub shown_all : {V : Type 0} (f : V → Tree) (es rest : List (String Global × V)) (so_far : Entries) → rest ≡ [] → ShownBefore f es rest so_far → so_far ≡ shown f es
shown_all f es rest so_far none before =
    let all : es ≡ before.0 = before.1 ∙ ap (λ xs. before.0 ++ xs) none ∙ append-nil before.0 in before.2 ∙ ap (shown f) (sym all)

pub tree_of_ref : (r : Option (Bor Value)) → option_map (λ v. tree_of v.now) r ≡ option_map tree_of (option_map (λ v. v.now) r)
tree_of_ref None = refl
tree_of_ref (Some v) = refl

pub tree_of-Text : (s : String Global) → tree_of (Worded s) ≡ text (string_bytes s)
tree_of-Text s = search (rules, the_lemmas)

-- the texts of a set, as values
pub texts-items : (ss : List (String Global)) → items_view (each Worded ss) ≡ text_items (texts_view ss)
texts-items [] = refl
texts-items (s ∷ ss) = ap (λ t. item t (items_view (each Worded ss))) (tree_of-Text s) ∙ ap (item (text (string_bytes s))) (texts-items ss)
