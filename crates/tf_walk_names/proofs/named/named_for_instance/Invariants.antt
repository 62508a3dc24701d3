use Rattle.tf_config_data.specs.Config.{repetition_of}
use Rattle.tf_config_data.specs.Names.{places}
use Rattle.tf_config_names.proofs.Tables.{Adds}
use Rattle.tf_config_names.specs.Table.{names_in}
use Rattle.tf_expr_syntax.specs.ExprNames.{named_below}
use Rattle.tf_expr_syntax.specs.ExprTree.{entries_view}
use Rattle.tf_walk_names.specs.Wanted.{named_in_for_each}
use Rattle.tf_walk_names.proofs.named.named_for_instance.Given as goal

abbrev pub invariant-loop-expr : goal.invariant-loop-expr
invariant-loop-expr l =
    Adds (names_in l.names) (places (names_in l.names) (named_in_for_each (repetition_of l.block.repetition))) (named_below (entries_view l.block.arguments.entries)) l.named.items (named_below (entries_view l.expr-iterator))
