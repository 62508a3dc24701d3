use Rattle.tf_config_names.proofs.Tables.{adds_more}
use Rattle.tf_config_names.specs.Table.{names_in}
use Rattle.tf_expr_syntax.specs.ExprNames.{named_below, named_by}
use Rattle.tf_expr_syntax.specs.ExprTree.{entries_view, tree_of}
use Rattle.tf_config_names.proofs.table.Declarations.add_named_below.Goals as goal

pub loop-expr-preserved : goal.loop-expr-preserved
loop-expr-preserved c =
    let left = rw c.in-Some.ensures.steps at c.loop-expr.invariant in
    adds_more (names_in c.args.self.now) c.args.found.now.items (named_below (entries_view c.args.entries.now.entries)) c.loop-expr.found.items c.add_named.new.found.items (named_by (tree_of c.in-Some.expr.now)) (named_below (entries_view c.next.new.self)) left c.in_ok-add_named.ensures
