-- The JSON form of a value with a list in place of each set.
use Rattle.std.proofs.Common.{◌≡◌, ℕ, true, false, List, [], ◌∷◌, refl, ap}
use Rattle.serde_json.specs.Data as json
use Rattle.tf_value_data.specs.Parts.{items_rewritten, entries_rewritten}
use Rattle.tf_value_data.specs.Sets.{with_lists}
use Rattle.tf_value_data.specs.Tree.{Tree, list, map, set, Items, no_items, item, Entries, no_entries, entry, text_items}
use Rattle.tf_value_json.specs.Json.{value_data, items_data, entries_data, texts_data}

texts-data : (ss : List (List ℕ)) → items_data (text_items ss) ≡ texts_data ss
texts-data [] = refl
texts-data (s ∷ ss) = ap (json.item (json.string s)) (texts-data ss)

-- it is that of the value
mutual
  pub lists-data : (t : Tree) → value_data (with_lists t) ≡ value_data t
  lists-data (list ts) = ap json.array (item_lists-data ts)
  lists-data (map es) = ap json.object (entry_lists-data es)
  lists-data (set ss) = ap json.array (texts-data ss)
  lists-data _ = refl

  item_lists-data : (ts : Items) → items_data (items_rewritten false true ts) ≡ items_data ts
  item_lists-data no_items = refl
  item_lists-data (item t ts) = let p = lists-data t in let q = item_lists-data ts in rw (p, q) refl

  entry_lists-data : (es : Entries) → entries_data (entries_rewritten false true es) ≡ entries_data es
  entry_lists-data no_entries = refl
  entry_lists-data (entry k t es) = let p = lists-data t in let q = entry_lists-data es in rw (p, q) refl
