use Rattle.std.proofs.Common.{sym, subst}
use Rattle.tf_value_data.specs.Tree.{tree_of}
use Rattle.tf_expr_operators.specs.Found.{FindsExactly, found_tree}
use Rattle.tf_expr_operators.specs.Parts.{index_value}
use Rattle.tf_expr_operators.proofs.found.index_of.Goals as goal

pub returns : goal.returns
returns c =
    let answered = c.made.ensures.exact (index_value (tree_of c.in-Made.value) (tree_of c.value-in-Made.result.now)) c.index.ensures in
    let at = subst (λ t. FindsExactly (index_value (tree_of c.in-Made.value) t) c.made.result) c.value-in-Made.ensures answered in
    subst (λ f. FindsExactly (index_value (found_tree f) (found_tree c.args.place)) c.made.result) (sym c.in-Made.is) at
