use Rattle.std.proofs.Common.{◌≡◌, drop}
use Rattle.tf_value_data.specs.Tree.{Items, tree_of, items_view}
use Rattle.tf_expr_operators.specs.Answer.{items_behind}
use Rattle.tf_expr_operators.specs.Functions.{each_after, spaced}
use Rattle.tf_expr_operators.specs.Joiner.{Joins}
use Rattle.tf_expr_operators.proofs.calls.join_items.Given as goal

abbrev pub invariant-loop-item : goal.invariant-loop-item
invariant-loop-item l =
    (ts : Items) × Joins l.joiner ts × (items_behind ts (each_after (tree_of l.separator) (items_view (drop l.item-index l.others))) ≡ spaced (tree_of l.separator) (items_view l.items.items))
