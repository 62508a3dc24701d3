-- Items and entries, one behind the other.
use Rattle.std.proofs.Common.{◌≡◌, ◌<◌, ◌≤◌, zero, ◌+◌, add-one, drop-cons, drop, get_or, length, ℕ, List, [], ◌∷◌, ◌++◌, Option, Some, None, Ordering, Less, Equal, Greater, String, Global, string_bytes, string_cmp, nat_cmp, option_map, suc, arith, refl, sym, ap, ◌∙◌}
use Rattle.tf_value_data.specs.Tree.{Tree, Items, no_items, item, tree_of, items_view}
use Rattle.std.specs.Map.{keys_of, values_of}
use Rattle.tf_value_data.specs.Tree.{entries_view, text, texts_view, text_items}
use Rattle.std.specs.BTreeSet.{insert_key}
use Rattle.std.specs.Cmp.Lexicographic.{slice_cmp}
use Rattle.std.specs.Ordering.{match_ordering}
use Rattle.tf_value_data.specs.declared.value.Value.{Value}
use Rattle.tf_value_data.proofs.Views.{Entry}
use Rattle.tf_expr_operators.specs.Answer.{items_behind, item_behind}
use Rattle.tf_expr_operators.specs.Parts.{item_at}
use Rattle.tf_expr_operators.specs.Functions.{key_items, value_items, items_count, entries_count}

one_more : (n : ℕ) → 1 + n ≡ suc n
one_more n = omega arith

-- a value moved from the rest to what is done
pub items_behind-push : (vs : List Value) (v : Value) (us : Items) → items_behind (items_view (vs ++ v ∷ [])) us ≡ items_behind (items_view vs) (item (tree_of v) us)
items_behind-push [] v us = refl
items_behind-push (w ∷ vs) v us = ap (item (tree_of w)) (items_behind-push vs v us)

-- nothing is left
pub items_behind-nil : (ts : Items) → items_behind ts no_items ≡ ts
items_behind-nil no_items = refl
items_behind-nil (item t ts) = ap (item t) (items_behind-nil ts)

pub items_behind-assoc : (ts us vs : Items) → items_behind (items_behind ts us) vs ≡ items_behind ts (items_behind us vs)
items_behind-assoc no_items us vs = refl
items_behind-assoc (item t ts) us vs = ap (item t) (items_behind-assoc ts us vs)

-- one more behind what is done
pub items_behind-step : (ts : Items) (t : Tree) (us : Items) → items_behind (item_behind ts t) us ≡ items_behind ts (item t us)
items_behind-step ts t us = items_behind-assoc ts (item t no_items) us

-- the values of a list behind those of another
pub items_view-append : (vs ws : List Value) → items_view (vs ++ ws) ≡ items_behind (items_view vs) (items_view ws)
items_view-append [] ws = refl
items_view-append (v ∷ vs) ws = ap (item (tree_of v)) (items_view-append vs ws)

-- the values from an index on
pub items_view-drop : (vs : List Value) (i : ℕ) (v : Value) → i < length vs → items_view (drop i vs) ≡ item (tree_of (get_or vs i v)) (items_view (drop (i + 1) vs))
items_view-drop vs i v h = rw (add-one) (ap items_view (drop-cons vs i v h))

-- what stands at the keys, as values
pub value_items-view : (es : List Entry) → value_items (entries_view es) ≡ items_view (values_of es)
value_items-view [] = refl
value_items-view (e ∷ es) = ap (item (tree_of e.1)) (value_items-view es)

-- the keys, as values
pub key_items-view : (es : List Entry) → text_items (texts_view (keys_of es)) ≡ key_items (entries_view es)
key_items-view [] = refl
key_items-view (e ∷ es) = ap (item (text (string_bytes e.0))) (key_items-view es)

-- lists behind lists behind others
pub concatenated-step : (vs us : List Value) (o : Option Items) → option_map (items_behind (items_view (vs ++ us))) o ≡ option_map (items_behind (items_view vs)) (option_map (items_behind (items_view us)) o)
concatenated-step vs us None = refl
concatenated-step vs us (Some ts) = ap (λ xs. Some (items_behind xs ts)) (items_view-append vs us) ∙ ap Some (items_behind-assoc (items_view vs) (items_view us) ts)

-- as many entries, as seen
pub entries_count-view : (es : List Entry) → entries_count (entries_view es) ≡ length es
entries_count-view [] = refl
entries_count-view (e ∷ es) = ap (λ n. 1 + n) (entries_count-view es) ∙ one_more (length es)

-- as many items, as seen
pub items_count-view : (vs : List Value) → items_count (items_view vs) ≡ length vs
items_count-view [] = refl
items_count-view (v ∷ vs) = ap (λ n. 1 + n) (items_count-view vs) ∙ one_more (length vs)

-- the item at an index
pub item_at-view : (vs : List Value) (i : ℕ) (v : Value) → i < length vs → v ≡ get_or vs i v → item_at i (items_view vs) ≡ Some (tree_of v)
item_at-view [] i v h e = absurd (omega arith)
item_at-view (w ∷ vs) zero v h e = ap (λ u. Some (tree_of u)) (sym e)
item_at-view (w ∷ vs) (suc i) v h e = item_at-view vs i v (omega arith) e

-- none stands behind the last
pub item_at-beyond : (vs : List Value) (i : ℕ) → length vs ≤ i → item_at i (items_view vs) ≡ None
item_at-beyond [] i h = refl
item_at-beyond (w ∷ vs) zero h = absurd (omega arith)
item_at-beyond (w ∷ vs) (suc i) h = item_at-beyond vs i (omega arith)

-- as many texts, as seen
pub texts_view-length : (ss : List (String Global)) → length (texts_view ss) ≡ length ss
texts_view-length [] = refl
texts_view-length (s ∷ ss) = ap suc (texts_view-length ss)

texts_view-match_ordering : (o : Ordering) (a b c : List (String Global)) → texts_view (match_ordering o a b c) ≡ match_ordering o (texts_view a) (texts_view b) (texts_view c)
texts_view-match_ordering Less a b c = refl
texts_view-match_ordering Equal a b c = refl
texts_view-match_ordering Greater a b c = refl

-- what an insert into a `BTreeSet<String>` leaves
pub texts_view-insert_key : (ss : List (String Global)) (s : String Global) → texts_view (insert_key string_cmp ss s) ≡ insert_key (slice_cmp nat_cmp) (texts_view ss) (string_bytes s)
texts_view-insert_key [] s = refl
texts_view-insert_key (t ∷ ss) s = texts_view-match_ordering (string_cmp s t) _ _ _ ∙ rw (texts_view-insert_key ss s)
