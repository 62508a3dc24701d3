use Rattle.std.proofs.Common.{◌≡◌}
use Rattle.tf_value_data.specs.Tree.{entries_view}
use Rattle.tf_expr_operators.specs.Functions.{laid_over}
use Rattle.tf_expr_operators.proofs.collections.lay_over.Given as goal

abbrev pub invariant-loop-key : goal.invariant-loop-key
invariant-loop-key l = laid_over (entries_view l.base.entries) (entries_view l.key-iterator) ≡ laid_over (entries_view l.fn.base.entries) (entries_view l.fn.entries.entries)
