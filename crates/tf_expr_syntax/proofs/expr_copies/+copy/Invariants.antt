use Rattle.std.proofs.Common.{◌≡◌, take, map}
use Rattle.tf_expr_syntax.specs.ExprTree.{tree_of, entries_view}
use Rattle.tf_expr_syntax.proofs.ExprViews.{ViewedBefore}
use Rattle.tf_expr_syntax.proofs.expr_copies.+copy.Given as goal

abbrev pub invariant-copy_list-loop-expr : goal.invariant-copy_list-loop-expr
invariant-copy_list-loop-expr l = map tree_of l.copies.items ≡ map tree_of (take l.expr-index l.expr-items)

abbrev pub invariant-copy_entries-loop-key : goal.invariant-copy_entries-loop-key
invariant-copy_entries-loop-key l = ViewedBefore l.entries.entries l.key-iterator (entries_view l.copies.entries)
