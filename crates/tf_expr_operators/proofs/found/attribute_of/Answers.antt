use Rattle.std.proofs.Common.{sym, subst}
use Rattle.tf_value_data.specs.Tree.{tree_of}
use Rattle.tf_expr_operators.specs.Found.{FindsExactly, found_tree}
use Rattle.tf_expr_operators.specs.Parts.{attribute_value}
use Rattle.tf_expr_operators.proofs.found.attribute_of.Goals as goal

pub returns-in-At : goal.returns-in-At
returns-in-At c =
    let name = c.args.name.now in
    let answered = c.seen.ensures (attribute_value (tree_of c.in-At.value.now) name) c.attribute_at.ensures in
    subst (λ f. FindsExactly (attribute_value (found_tree f) name) c.seen.result) (sym c.in-At.is) answered

pub returns-in-Made : goal.returns-in-Made
returns-in-Made c =
    let name = c.args.name.now in
    let answered = c.made.ensures.exact (attribute_value (tree_of c.in-Made.value) name) c.attribute.ensures in
    subst (λ f. FindsExactly (attribute_value (found_tree f) name) c.made.result) (sym c.in-Made.is) answered
