use Rattle.std.proofs.Common.{◌≡◌, option_map}
use Rattle.std.specs.Vec.Iter.{into_iter_items}
use Rattle.tf_value_data.specs.Tree.{items_view}
use Rattle.tf_expr_operators.specs.Answer.{items_behind}
use Rattle.tf_expr_operators.specs.Functions.{concatenated}
use Rattle.tf_expr_operators.proofs.collections.concat.Given as goal

abbrev pub invariant-loop-argument : goal.invariant-loop-argument
invariant-loop-argument l = option_map (items_behind (items_view l.joined.items)) (concatenated (items_view (into_iter_items l.argument-iterator))) ≡ concatenated (items_view l.fn.arguments.items)
