use Rattle.std.proofs.Common.{◌≡◌, length}
use Rattle.std.specs.Prelude.{◌↔◌}
use Rattle.tf_value_data.specs.Tree.{items_view, entries_view}
use Rattle.tf_value_data.specs.Refinement.{RefinesItems, RefinesEntries}
use Rattle.tf_value_data.proofs.refinement.+refines.Given as goal

abbrev pub invariant-items_refine-loop-item : goal.invariant-items_refine-loop-item
invariant-items_refine-loop-item l = record {
  same_length : length l.item-iterator.a.rest.now ≡ length l.item-iterator.b.rest.now;
  left : RefinesItems (items_view l.item-iterator.a.rest.now) (items_view l.item-iterator.b.rest.now) ↔ RefinesItems (items_view l.items.items) (items_view l.others.items);
}

abbrev pub invariant-entries_refine-loop-key : goal.invariant-entries_refine-loop-key
invariant-entries_refine-loop-key l = record {
  same_length : length l.key-iterator.a ≡ length l.key-iterator.b;
  left : RefinesEntries (entries_view l.key-iterator.a) (entries_view l.key-iterator.b) ↔ RefinesEntries (entries_view l.entries.entries) (entries_view l.others.entries);
}
