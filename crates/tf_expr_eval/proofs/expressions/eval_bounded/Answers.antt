use Rattle.tf_value_data.specs.Tree.{tree_of as value_of}
use Rattle.tf_expr_syntax.specs.ExprTree.{tree_of}
use Rattle.tf_expr_eval.proofs.expressions.eval_bounded.Goals as goal

pub of-requires : goal.of-requires
of-requires g c = c.values_are_within_limits.ensures.expressions (g.S.Scope.environment c.args.scope.now) (tree_of c.args.expr.now) (value_of c.in_ok-value.value) c.in_ok-value.ensures
