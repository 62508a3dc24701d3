use Rattle.std.proofs.Common.{◌≡◌, map, take}
use Rattle.tf_expr_syntax.specs.TemplateTree.{view}
use Rattle.tf_expr_syntax.proofs.Copied.{pair}
use Rattle.tf_expr_syntax.proofs.copies.+copy.Given as goal

abbrev pub invariant-copy_terms-loop-term : goal.invariant-copy_terms-loop-term
invariant-copy_terms-loop-term l = map view l.copies.items ≡ map view (take l.term-index l.terms.items)

abbrev pub invariant-copy_parts-loop-part : goal.invariant-copy_parts-loop-part
invariant-copy_parts-loop-part l = map pair l.copies.items ≡ map pair (take l.part-index l.parts.items)
