use Rattle.std.proofs.Common.{◌≡◌, List, ◌++◌, take, drop, map}
use Rattle.serde_json.specs.View.{view, members_view}
use Rattle.tf_value_json.specs.Json.{value_data}
use Rattle.tf_value_data.specs.Tree.{AreHeld, AreHeldEntries, tree_of, items_view, entries_view}
use Rattle.tf_value_data.proofs.Views.{Entry}
use Rattle.tf_value_json.proofs.JsonForms.{written_entries}
use Rattle.tf_value_json.proofs.writing.+write.Given as goal

abbrev pub invariant-written_items-loop-item : goal.invariant-written_items-loop-item
invariant-written_items-loop-item l = record {
  held : AreHeld (items_view (drop l.item-index l.item-items)) → AreHeld (items_view l.item-items);
  done : map view l.array.items ≡ map (λ v. value_data (tree_of v)) (take l.item-index l.item-items);
}

abbrev pub invariant-written_entries-loop-key : goal.invariant-written_entries-loop-key
invariant-written_entries-loop-key l = record {
  held : AreHeldEntries (entries_view l.key-iterator) → AreHeldEntries (entries_view l.entries.entries);
  done : (done : List Entry) × (l.entries.entries ≡ done ++ l.key-iterator) × (members_view l.object.entries ≡ written_entries done);
}
