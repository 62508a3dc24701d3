use Rattle.std.proofs.Common.{subst}
use Rattle.tf_value_data.specs.Tree.{tree_of}
use Rattle.tf_expr_operators.specs.Found.{FindsExactly, found_tree}
use Rattle.tf_expr_operators.specs.Operators.{binary_value}
use Rattle.tf_expr_operators.proofs.found.binary_of.Goals as goal

pub returns : goal.returns
returns c =
    let op = c.args.operator in
    let answered = c.made.ensures.exact (binary_value op (tree_of c.value.result.now) (tree_of c.value-2.result.now)) c.binary.ensures in
    let left = subst (λ t. FindsExactly (binary_value op t (tree_of c.value-2.result.now)) c.made.result) c.value.ensures answered in
    subst (λ t. FindsExactly (binary_value op (found_tree c.args.left) t) c.made.result) c.value-2.ensures left
