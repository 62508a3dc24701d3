use Rattle.tf_config_names.proofs.Tests.{RestsOn}
use Rattle.tf_config_names.specs.KnownNames.{declared_of, knows}
use Rattle.tf_expr_syntax.specs.TemplateNames.{reference_of}
use Rattle.tf_config_names.proofs.known_names.Known.knows_all.Given as goal

abbrev pub invariant-loop-reference : goal.invariant-loop-reference
invariant-loop-reference l = RestsOn (knows (declared_of l.self) l.context) (λ r. reference_of r.now) l.references l.reference-index
