use Rattle.std.proofs.Common.{◌≡◌, []}
use Rattle.std.specs.Vec.Iter.{into_iter_items}
use Rattle.tf_value_data.specs.Tree.{items_view, texts_view}
use Rattle.tf_expr_operators.specs.Functions.{texts_with}
use Rattle.tf_expr_operators.proofs.collections.set_of_texts.Given as goal

abbrev pub invariant-loop-item : goal.invariant-loop-item
invariant-loop-item l = texts_with (texts_view l.texts.keys) (items_view (into_iter_items l.item-iterator)) ≡ texts_with [] (items_view l.fn.items.items)
