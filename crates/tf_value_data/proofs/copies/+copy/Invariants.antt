use Rattle.std.proofs.Common.{◌≡◌, take, map}
use Rattle.tf_value_data.specs.Tree.{tree_of, entries_view}
use Rattle.tf_value_data.proofs.Views.{ShownBefore}
use Rattle.tf_value_data.proofs.copies.+copy.Given as goal

abbrev pub invariant-loop-item : goal.invariant-loop-item
invariant-loop-item l = map tree_of l.copies.items ≡ map tree_of (take l.item-index l.item-items)

abbrev pub invariant-loop-key : goal.invariant-loop-key
invariant-loop-key l = ShownBefore tree_of l.initial.key-iterator l.key-iterator (entries_view l.copies.entries)
