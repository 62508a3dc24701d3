use Rattle.tf_config_names.proofs.Tables.{Adds}
use Rattle.tf_config_names.specs.Table.{names_in}
use Rattle.tf_expr_syntax.specs.ExprNames.{named_below}
use Rattle.tf_expr_syntax.specs.ExprTree.{entries_view}
use Rattle.tf_config_names.proofs.table.Declarations.add_named_below.Given as goal

abbrev pub invariant-loop-expr : goal.invariant-loop-expr
invariant-loop-expr l = Adds (names_in l.self) l.fn.found.items (named_below (entries_view l.entries.entries)) l.found.items (named_below (entries_view l.expr-iterator))
