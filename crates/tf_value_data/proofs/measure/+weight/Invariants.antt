use Rattle.std.proofs.Common.{◌≡◌, ◌+◌, ◌-◌, ◌<◌, ◌^◌, min, drop}
use Rattle.tf_value_data.specs.Tree.{AreHeld, AreHeldEntries, AreSorted, AreSortedEntries, items_view, entries_view}
use Rattle.tf_value_data.specs.Measure.{weight_of_items, weight_of_entries}
use Rattle.tf_value_data.proofs.measure.+weight.Given as goal

abbrev pub invariant-weigh_items-loop-item : goal.invariant-weigh_items-loop-item
invariant-weigh_items-loop-item l = record {
  fits : l.total < 2 ^ 64;
  left : min (l.total + weight_of_items (items_view (drop l.item-index l.item-items))) (2 ^ 64 - 1) ≡ min (weight_of_items (items_view l.item-items)) (2 ^ 64 - 1);
  held : AreHeld (items_view (drop l.item-index l.item-items)) → AreHeld (items_view l.item-items);
  sorted : AreSorted (items_view (drop l.item-index l.item-items)) → AreSorted (items_view l.item-items);
}

abbrev pub invariant-weigh_entries-loop-key : goal.invariant-weigh_entries-loop-key
invariant-weigh_entries-loop-key l = record {
  fits : l.total < 2 ^ 64;
  left : min (l.total + weight_of_entries (entries_view l.key-iterator)) (2 ^ 64 - 1) ≡ min (weight_of_entries (entries_view l.entries.entries)) (2 ^ 64 - 1);
  held : AreHeldEntries (entries_view l.key-iterator) → AreHeldEntries (entries_view l.entries.entries);
  sorted : AreSortedEntries (entries_view l.key-iterator) → AreSortedEntries (entries_view l.entries.entries);
}
