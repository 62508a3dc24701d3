use Rattle.std.proofs.Common.{drop}
use Rattle.tf_expr_syntax.specs.TemplateNames.{called_among, called_between, named_among, named_between}
use Rattle.tf_expr_syntax.specs.TemplateTree.{parts_view, terms_view}
use Rattle.tf_expr_syntax.proofs.Finding.{Finds}
use Rattle.tf_expr_syntax.proofs.names.+names.Given as goal

abbrev pub invariant-add_terms-loop-term : goal.invariant-add_terms-loop-term
invariant-add_terms-loop-term l = Finds l.found l.fn.found named_among called_among (terms_view (drop l.term-index l.term-items)) (terms_view l.term-items)

abbrev pub invariant-add_parts-loop-part : goal.invariant-add_parts-loop-part
invariant-add_parts-loop-part l = Finds l.found l.fn.found named_between called_between (parts_view (drop l.part-index l.part-items)) (parts_view l.part-items)
