use Rattle.std.proofs.Common.{drop, map}
use Rattle.tf_config_names.proofs.Tables.{Adds}
use Rattle.tf_config_names.specs.Table.{names_in}
use Rattle.tf_expr_syntax.specs.TemplateNames.{reference_of}
use Rattle.tf_config_names.proofs.table.Declarations.add_named.Given as goal

abbrev pub invariant-loop-reference : goal.invariant-loop-reference
invariant-loop-reference l = Adds (names_in l.self) l.fn.found.items (map (λ r. reference_of r.now) l.reference-items) l.found.items (map (λ r. reference_of r.now) (drop l.reference-index l.reference-items))
