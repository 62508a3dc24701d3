use Rattle.std.proofs.Common.{option_map, ◌∙◌, ap}
use Rattle.tf_expr_syntax.specs.ExprTree.{tree_of}
use Rattle.tf_expr_syntax.proofs.ExprViews.{tree_of-lookup, tree_of_ref}
use Rattle.tf_expr_syntax.proofs.expr.find.Goals as goal

pub returns : goal.returns
returns c = tree_of_ref c.get.result ∙ ap (option_map tree_of) c.get.ensures.value ∙ tree_of-lookup c.args.name.now c.args.entries.now.entries
