use Rattle.std.proofs.Common.{◌≡◌, ◌-◌, ◌<◌, ◌^◌, min, max, drop}
use Rattle.tf_value_data.specs.Tree.{items_view, entries_view}
use Rattle.tf_value_data.specs.Measure.{depth_of_items, depth_of_entries}
use Rattle.tf_value_data.proofs.measure.+depth.Given as goal

abbrev pub invariant-deepest_item-loop-item : goal.invariant-deepest_item-loop-item
invariant-deepest_item-loop-item l = record {
  fits : l.deepest < 2 ^ 32;
  left : min (max l.deepest (depth_of_items (items_view (drop l.item-index l.item-items)))) (2 ^ 32 - 1) ≡ min (depth_of_items (items_view l.item-items)) (2 ^ 32 - 1);
}

abbrev pub invariant-deepest_entry-loop-value : goal.invariant-deepest_entry-loop-value
invariant-deepest_entry-loop-value l = record {
  fits : l.deepest < 2 ^ 32;
  left : min (max l.deepest (depth_of_entries (entries_view l.value-iterator))) (2 ^ 32 - 1) ≡ min (depth_of_entries (entries_view l.entries.entries)) (2 ^ 32 - 1);
}
