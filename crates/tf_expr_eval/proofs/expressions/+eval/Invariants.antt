use Rattle.std.proofs.Common.{◌≡◌, map, drop}
use Rattle.tf_value_data.specs.Tree.{tree_of as value_of, entries_view as entries_of_values}
use Rattle.tf_expr_eval.proofs.Rows.{onto}
use Rattle.tf_expr_eval.specs.ExprMeaning.{meanings}
use Rattle.tf_expr_syntax.specs.ExprTree.{trees_view}
use Rattle.tf_expr_eval.proofs.Entries.{ValuedBefore}
use Rattle.tf_expr_eval.proofs.expressions.+eval.Given as goal

-- what is valued so far, and the rest
abbrev pub invariant-eval_expr-loop-part : goal.invariant-eval_expr-loop-part
invariant-eval_expr-loop-part g l =
    meanings (g.S.Scope.environment l.scope) (trees_view l.part-items) ≡ onto (map value_of l.values.items) (meanings (g.S.Scope.environment l.scope) (trees_view (drop l.part-index l.part-items)))

-- the entries so far are valued
abbrev pub invariant-eval_entries-loop-key : goal.invariant-eval_entries-loop-key
invariant-eval_entries-loop-key g l = ValuedBefore (g.S.Scope.environment l.scope) l.entries.entries l.key-iterator (entries_of_values l.values.entries)
