use Rattle.std.proofs.Common.{sym, ap, ◌∙◌}
use Rattle.tf_expr_syntax.proofs.ExprViews.{entries_view-insert_entry}
use Rattle.tf_expr_syntax.specs.ExprTree.{tree_of, entries_view}
use Rattle.tf_config_json.proofs.bodies.add_expression.Goals as goal

pub returns : goal.returns
returns c =
    let put_in = ap entries_view c.in_ok-insert.ensures.entries ∙ entries_view-insert_entry c.args.entries.now.entries c.in_ok-name.name c.in_ok-expr.expr in (
      c.in_ok-demand_name.ensures.0,
      (tree_of c.in_ok-expr.expr, c.in_ok-expr.ensures, sym (put_in ∙ rw c.in_ok-name.ensures.ok)),
    )
