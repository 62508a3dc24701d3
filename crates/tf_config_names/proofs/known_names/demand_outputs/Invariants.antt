use Rattle.tf_config_names.proofs.NameWalks.{IsLeft}
use Rattle.tf_config_names.specs.KnownNames.{declared_of, output_checks}
use Rattle.tf_expr_syntax.specs.ExprTree.{entries_view}
use Rattle.tf_config_names.proofs.known_names.demand_outputs.Given as goal

abbrev pub invariant-loop-name : goal.invariant-loop-name
invariant-loop-name l = IsLeft (declared_of l.known) (output_checks (entries_view l.outputs.entries)) (output_checks (entries_view l.name-iterator))
