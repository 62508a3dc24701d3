use Rattle.std.proofs.Common.{subst}
use Rattle.tf_value_data.specs.Tree.{tree_of}
use Rattle.tf_expr_operators.specs.Found.{FindsExactly}
use Rattle.tf_expr_operators.specs.Operators.{unary_value}
use Rattle.tf_expr_operators.proofs.found.unary_of.Goals as goal

pub returns : goal.returns
returns c =
    let answered = c.made.ensures.exact (unary_value c.args.prefix (tree_of c.value.result.now)) c.unary.ensures in
    subst (λ t. FindsExactly (unary_value c.args.prefix t) c.made.result) c.value.ensures answered
