use Rattle.std.proofs.Common.{◌≡◌, map, take}
use Rattle.tf_expr_syntax.specs.TemplateNames.{reference_of}
use Rattle.tf_expr_syntax.proofs.names.copied_references.Given as goal

abbrev pub invariant-loop-reference : goal.invariant-loop-reference
invariant-loop-reference l = map reference_of l.copies.items ≡ map (λ r. reference_of r.now) (take l.reference-index l.references)
