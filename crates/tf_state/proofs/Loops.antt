-- One step of a loop over items, and what a set or a map gains.
use Rattle.std.proofs.Common.{◌≡◌, ℕ, suc, sym, ◌+◌, ◌<◌, ◌≤◌, false, List, [], ◌∷◌, length, get_or, drop, map, Some, String, Global, Ordering, Less, Equal, Greater, string_bytes, string_cmp, refl, ap, ◌∙◌, arith, add-one}
use Rattle.std.proofs.Math.Seq.{drop-cons}
use Rattle.std.specs.BTreeMap.{insert_entry}
use Rattle.std.specs.BTreeSet.{insert_key}
use Rattle.std.specs.Ordering.{match_ordering}
use Rattle.serde_json.specs.Data.{item, array}
use Rattle.serde_json.specs.View.{view, items_view}
use Rattle.serde_json.specs.declared.value.Value.{Value}
use Rattle.tf_value_data.specs.Tree.{put, tree_of}
use Rattle.tf_state.specs.Reading.{put_text, is_unsensitive}
use Rattle.tf_state_data.specs.State.{outputs_of}
use Rattle.tf_state_data.specs.declared.object.Object.{Object}

-- what is left of a list from a place on is the element there and those behind it
pub rest_from : {A : Type 0} (xs : List A) (i : ℕ) (x : A) → i < length xs → x ≡ get_or xs i x → drop i xs ≡ x ∷ drop (i + 1) xs
rest_from xs i x within is = rw add-one (drop-cons xs i x within ∙ ap (λ y. y ∷ drop (suc i) xs) (sym is))

-- the items from a place on are the one there and those from the next place on
pub next_item : (vs : List Value) (i : ℕ) (v : Value) → i < length vs → v ≡ get_or vs i v → items_view (drop i vs) ≡ item (view v) (items_view (drop (i + 1) vs))
next_item vs i v h e = ap items_view (drop-cons vs i v h) ∙ rw (← e, add-one) refl

texts_of-match_ordering : (o : Ordering) (a b c : List (String Global)) → map string_bytes (match_ordering o a b c) ≡ match_ordering o (map string_bytes a) (map string_bytes b) (map string_bytes c)
texts_of-match_ordering Less a b c = refl
texts_of-match_ordering Equal a b c = refl
texts_of-match_ordering Greater a b c = refl

-- what an insert into a `BTreeSet<String>` leaves
pub texts_of-insert_key : (ks : List (String Global)) (k : String Global) → map string_bytes (insert_key string_cmp ks k) ≡ put_text (string_bytes k) (map string_bytes ks)
texts_of-insert_key [] k = refl
texts_of-insert_key (x ∷ ks) k = texts_of-match_ordering (string_cmp k x) _ _ _ ∙ rw (texts_of-insert_key ks k) refl

-- an array with an item isn't empty
pub some_items : (vs : List Value) → 1 ≤ length vs → false ≡ is_unsensitive (Some (array (items_view vs)))
some_items [] h = absurd (omega arith)
some_items (v ∷ vs) h = refl

outputs_of-match_ordering : (o : Ordering) (a b c : List (String Global × Object)) → outputs_of (match_ordering o a b c) ≡ match_ordering o (outputs_of a) (outputs_of b) (outputs_of c)
outputs_of-match_ordering Less a b c = refl
outputs_of-match_ordering Equal a b c = refl
outputs_of-match_ordering Greater a b c = refl

-- what an insert into a `BTreeMap<String, Object>` leaves
pub outputs_of-insert_entry : (es : List (String Global × Object)) (k : String Global) (o : Object) → outputs_of (insert_entry string_cmp es k o) ≡ put (string_bytes k) (tree_of o.value) (outputs_of es)
outputs_of-insert_entry [] k o = refl
outputs_of-insert_entry (e ∷ es) k o = outputs_of-match_ordering (string_cmp k e.0) _ _ _ ∙ rw (outputs_of-insert_entry es k o)
