use Rattle.std.proofs.Common.{◌≡◌, ◌+◌, ◌-◌, ◌<◌, ◌^◌, min, max, drop}
use Rattle.serde_json.specs.View.{items_view, members_view}
use Rattle.tf_value_json.specs.Json.{items_from, entries_from}
use Rattle.tf_value_data.specs.Measure.{weight_of_items, weight_of_entries, depth_of_items, depth_of_entries}
use Rattle.tf_value_data.specs.Tree.{AreSorted, AreSortedEntries}
use Rattle.tf_value_json.proofs.reading.+measure.Given as goal

abbrev pub invariant-measure_of_items-loop-item : goal.invariant-measure_of_items-loop-item
invariant-measure_of_items-loop-item l = record {
  fits : l.weight < 2 ^ 64;
  shallow : l.depth < 2 ^ 32;
  left : min (l.weight + weight_of_items (items_from (items_view (drop l.item-index l.item-items)))) (2 ^ 64 - 1) ≡ min (weight_of_items (items_from (items_view l.item-items))) (2 ^ 64 - 1);
  below : min (max l.depth (depth_of_items (items_from (items_view (drop l.item-index l.item-items))))) (2 ^ 32 - 1) ≡ min (depth_of_items (items_from (items_view l.item-items))) (2 ^ 32 - 1);
  sorted : AreSorted (items_from (items_view (drop l.item-index l.item-items))) → AreSorted (items_from (items_view l.item-items));
}

abbrev pub invariant-measure_of_members-loop-key : goal.invariant-measure_of_members-loop-key
invariant-measure_of_members-loop-key l = record {
  fits : l.weight < 2 ^ 64;
  shallow : l.depth < 2 ^ 32;
  left : min (l.weight + weight_of_entries (entries_from (members_view l.key-iterator))) (2 ^ 64 - 1) ≡ min (weight_of_entries (entries_from (members_view l.members.entries))) (2 ^ 64 - 1);
  below : min (max l.depth (depth_of_entries (entries_from (members_view l.key-iterator)))) (2 ^ 32 - 1) ≡ min (depth_of_entries (entries_from (members_view l.members.entries))) (2 ^ 32 - 1);
  sorted : AreSortedEntries (entries_from (members_view l.key-iterator)) → AreSortedEntries (entries_from (members_view l.members.entries));
}
