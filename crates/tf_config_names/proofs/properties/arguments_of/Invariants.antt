use Rattle.std.proofs.Common.{◌≡◌, ◌++◌, map}
use Rattle.tf_config_names.specs.KnownNames.{arguments_in}
use Rattle.tf_config_names.specs.Properties.{property_view}
use Rattle.tf_expr_syntax.specs.ExprTree.{entries_view}
use Rattle.tf_config_names.proofs.properties.arguments_of.Given as goal

abbrev pub invariant-loop-name : goal.invariant-loop-name
invariant-loop-name l = map property_view l.body.items ++ arguments_in l.context (entries_view l.name-iterator) ≡ arguments_in l.context (entries_view l.arguments.entries)
