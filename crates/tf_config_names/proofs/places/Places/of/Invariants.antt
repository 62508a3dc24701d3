use Rattle.std.proofs.Common.{◌≡◌}
use Rattle.tf_config_names.proofs.Tables.{place_from}
use Rattle.tf_config_names.specs.Places.{found_in}
use Rattle.tf_expr_syntax.specs.TemplateNames.{Pair}
use Rattle.tf_config_names.proofs.places.Places.of.Given as goal

abbrev pub invariant-loop-place : goal.invariant-loop-place
invariant-loop-place l = (pair : Pair) → found_in l.places pair ≡ place_from l.entries l.place pair
