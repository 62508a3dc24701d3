use Rattle.std.proofs.Common.{◌≡◌, ◌++◌, map}
use Rattle.std.specs.Vec.Iter.{into_iter_items}
use Rattle.tf_value_data.specs.Sets.{with_lists}
use Rattle.tf_value_data.specs.Tree.{tree_of, entries_view}
use Rattle.tf_value_data.specs.declared.value.Value.{Value}
use Rattle.tf_value_data.proofs.Views.{ShownBefore}
use Rattle.tf_value_data.proofs.sets.+lists.Given as goal

abbrev pub invariant-items_with_lists-loop-item : goal.invariant-items_with_lists-loop-item
invariant-items_with_lists-loop-item l =
    let rewrite = λ (v : Value). with_lists (tree_of v) in
    map tree_of l.rewrites.items ++ map rewrite (into_iter_items l.item-iterator) ≡ map rewrite l.fn.items.items

abbrev pub invariant-entries_with_lists-loop-key : goal.invariant-entries_with_lists-loop-key
invariant-entries_with_lists-loop-key l =
    ShownBefore (λ v. with_lists (tree_of v)) l.fn.entries.entries l.key-iterator (entries_view l.rewrites.entries)
