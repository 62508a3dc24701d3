-- Values beside their JSON forms.
use Rattle.std.proofs.Common.{◌≡◌, ℕ, suc, ◌≤◌, List, length, take, [], ◌∷◌, ◌++◌, String, Global, Greater, string_bytes, string_cmp, nat_cmp, map as each, refl, ap, ◌∙◌}
use Rattle.std.proofs.lemmas.Cmp.{nat_list_cmp_total}
use Rattle.std.proofs.lemmas.List.{take_all}
use Rattle.std.specs.Cmp.Lexicographic.{slice_cmp}
use Rattle.std.specs.List.Sorted.{IsStrictlySortedBy}
use Rattle.std.specs.Map.{keys_of}
use Rattle.std.specs.Ordering.{ordering_reverse}
use Rattle.serde_json.specs.Data as json
use Rattle.serde_json.specs.Events.{items_len, members_len}
use Rattle.serde_json.specs.View.{view, items_view as json_items, items_of as json_items_of, members_view, members_of}
use Rattle.serde_json.proofs.Views.{Entry as Member}
use Rattle.tf_value_data.specs.Tree.{Entries, items_of, tree_of, items_view, entries_view, texts_view}
use Rattle.tf_value_json.specs.Json.{value_data, items_data, entries_data, texts_data, tree_from, items_from, entries_from}
use Rattle.tf_value_data.proofs.Views.{Entry, shown, below_middle}
use Rattle.tf_value_data.specs.declared.value.Value.{Value}
use Rattle.serde_json.specs.declared.value.Value.{Value as Json}

-- items that are read or written one by one
pub read_items-is : (js : List Json) → items_of (each (λ j. tree_from (view j)) js) ≡ items_from (json_items js)
read_items-is [] = refl
read_items-is (j ∷ js) = rw (read_items-is js)

pub written_items-is : (vs : List Value) → json_items_of (each (λ v. value_data (tree_of v)) vs) ≡ items_data (items_view vs)
written_items-is [] = refl
written_items-is (v ∷ vs) = rw (written_items-is vs)

pub written_texts-is : (ss : List (String Global)) → json_items_of (each (λ s. json.string (string_bytes s)) ss) ≡ texts_data (texts_view ss)
written_texts-is [] = refl
written_texts-is (s ∷ ss) = rw (written_texts-is ss)

-- all items were read, or written
pub read_all_items : (js : List Json) (n : ℕ) (vs : List Value) → length js ≤ n → each tree_of vs ≡ each (λ j. tree_from (view j)) (take n js) → items_view vs ≡ items_from (json_items js)
read_all_items js n vs all is = ap items_of is ∙ rw (take_all n js all) (read_items-is js)

pub written_all_items : (vs : List Value) (n : ℕ) (js : List Json) → length vs ≤ n → each view js ≡ each (λ v. value_data (tree_of v)) (take n vs) → json_items js ≡ items_data (items_view vs)
written_all_items vs n js all is = ap json_items_of is ∙ rw (take_all n vs all) (written_items-is vs)

-- the entries that the members of a `Map<String, Json>` read as
abbrev pub read_members : List Member → Entries
read_members = shown (λ j. tree_from (view j))

pub read_members-is : (ms : List Member) → read_members ms ≡ entries_from (members_view ms)
read_members-is [] = refl
read_members-is (m ∷ ms) = rw (read_members-is ms)

-- members whose values stand for JSON trees by a function
abbrev pub listed : {V : Type 0} → (V → json.Data) → List (String Global × V) → json.Members
listed f es = members_of (each (λ e. (e.0, f e.1)) es)

-- the members that the entries of a `BTreeMap<String, Value>` are written as
abbrev pub written_entries : List Entry → json.Members
written_entries = listed (λ v. value_data (tree_of v))

pub written_entries-is : (es : List Entry) → written_entries es ≡ entries_data (entries_view es)
written_entries-is [] = refl
written_entries-is (e ∷ es) = rw (written_entries-is es)

-- a form has as many items, or members, as the value
pub items_len-is : (vs : List Value) → items_len (items_data (items_view vs)) ≡ length vs
items_len-is [] = refl
items_len-is (v ∷ vs) = ap suc (items_len-is vs)

pub texts_len-is : (ss : List (String Global)) → items_len (texts_data (texts_view ss)) ≡ length ss
texts_len-is [] = refl
texts_len-is (s ∷ ss) = ap suc (texts_len-is ss)

pub members_len-is : (es : List Entry) → members_len (entries_data (entries_view es)) ≡ length es
members_len-is [] = refl
members_len-is (e ∷ es) = ap suc (members_len-is es)

-- a key that is above those before it goes last
pub put_last : {V : Type 0} (f : V → json.Data) (done : List (String Global × V)) (e : String Global × V) (more : List (String Global × V)) → IsStrictlySortedBy string_cmp (keys_of (done ++ e ∷ more))
    → json.put (string_bytes e.0) (f e.1) (listed f done) ≡ listed f (done ++ e ∷ [])
unfolding IsStrictlySortedBy
put_last f [] e more h = refl
put_last f (first ∷ done) e more h =
    let above : slice_cmp nat_cmp (string_bytes e.0) (string_bytes first.0) ≡ Greater =
    nat_list_cmp_total.antisymm (string_bytes e.0) (string_bytes first.0) ∙ ap ordering_reverse (below_middle first.0 done e more h.0) in
    rw above (ap (json.member (string_bytes first.0) (f first.1)) (put_last f done e more h.1))
