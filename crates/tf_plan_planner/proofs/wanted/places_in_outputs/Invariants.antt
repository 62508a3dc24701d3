use Rattle.std.proofs.Common.{[]}
use Rattle.tf_config_names.proofs.Tables.{Adds}
use Rattle.tf_config_names.specs.Table.{names_in}
use Rattle.tf_expr_syntax.specs.ExprNames.{named_below}
use Rattle.tf_expr_syntax.specs.ExprTree.{entries_view}
use Rattle.tf_plan_planner.proofs.wanted.places_in_outputs.Given as goal

abbrev pub invariant-loop-expr : goal.invariant-loop-expr
invariant-loop-expr l = Adds (names_in l.names) [] (named_below (entries_view l.outputs.entries)) l.found.items (named_below (entries_view l.expr-iterator))
