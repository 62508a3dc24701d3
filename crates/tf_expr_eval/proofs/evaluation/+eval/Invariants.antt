use Rattle.std.proofs.Common.{◌≡◌, ℕ, List, map, drop}
use Rattle.tf_value_data.specs.Tree.{Tree, Items}
use Rattle.tf_expr_syntax.specs.TemplateTree.{parts_view, terms_view}
use Rattle.tf_expr_operators.specs.Answer.{items_behind}
use Rattle.tf_expr_operators.specs.Found.{found_tree}
use Rattle.tf_expr_operators.specs.Joiner.{Joins}
use Rattle.tf_expr_eval.specs.Meaning.{between, laid, meanings}
use Rattle.tf_expr_eval.proofs.Rows.{onto}
use Rattle.tf_expr_eval.proofs.evaluation.+eval.Given as goal

abbrev pub invariant-term_values-loop-term : goal.invariant-term_values-loop-term
invariant-term_values-loop-term g l =
    meanings (g.S.Scope.environment l.scope) (terms_view l.terms.items) ≡ onto (map found_tree l.values.items) (meanings (g.S.Scope.environment l.scope) (terms_view (drop l.term-index l.terms.items)))

abbrev pub invariant-join_parts-loop-part : goal.invariant-join_parts-loop-part
invariant-join_parts-loop-part g l =
    (done : List (List ℕ × Tree)) × (between (g.S.Scope.environment l.scope) (parts_view l.parts.items) ≡ onto done (between (g.S.Scope.environment l.scope) (parts_view (drop l.part-index l.parts.items))))
    × ((ts : Items) → Joins l.fn.joiner ts → Joins l.joiner (items_behind ts (laid done)))
