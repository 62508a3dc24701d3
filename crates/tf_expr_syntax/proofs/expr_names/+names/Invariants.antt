use Rattle.std.proofs.Common.{drop}
use Rattle.tf_expr_syntax.specs.ExprNames.{called_among, called_below, named_among, named_below}
use Rattle.tf_expr_syntax.specs.ExprTree.{trees_view, entries_view}
use Rattle.tf_expr_syntax.proofs.Finding.{Finds}
use Rattle.tf_expr_syntax.proofs.expr_names.+names.Given as goal

abbrev pub invariant-add-loop-expr : goal.invariant-add-loop-expr
invariant-add-loop-expr l = Finds l.found l.fn.found named_among called_among (trees_view (drop l.expr-index l.expr-items)) (trees_view l.expr-items)

abbrev pub invariant-add_entries-loop-expr : goal.invariant-add_entries-loop-expr
invariant-add_entries-loop-expr l = Finds l.found l.fn.found named_below called_below (entries_view l.expr-iterator) (entries_view l.entries.entries)
