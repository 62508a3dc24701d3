use Rattle.tf_expr_syntax.specs.ExprTree.{tree_of}
use Rattle.tf_expr_eval.specs.ExprMeaning.{meaning}
use Rattle.tf_expr_eval.proofs.expressions.find_expr.Goals as goal

pub returns-in_default : goal.returns-in_default
returns-in_default g c = c.made.ensures.or_no_memory (meaning (g.S.Scope.environment c.args.scope.now) (tree_of c.args.expr.now)) c.eval_expr.ensures
