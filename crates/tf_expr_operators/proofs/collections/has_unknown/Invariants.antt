use Rattle.std.proofs.Common.{◌≡◌, drop}
use Rattle.tf_value_data.specs.Tree.{items_view}
use Rattle.tf_expr_operators.specs.Answer.{any_unknown}
use Rattle.tf_expr_operators.proofs.collections.has_unknown.Given as goal

abbrev pub invariant-loop-value : goal.invariant-loop-value
invariant-loop-value l = any_unknown (items_view (drop l.value-index l.value-items)) ≡ any_unknown (items_view l.value-items)
