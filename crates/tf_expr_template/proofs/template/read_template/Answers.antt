use Rattle.std.proofs.Common.{false, subst, arith}
use Rattle.tf_expr_template.specs.Spelling.{SpellsParts}
use Rattle.tf_expr_syntax.specs.TemplateTree.{template_view}
use Rattle.tf_expr_template.proofs.Weaving.{nothing_left}
use Rattle.tf_expr_template.proofs.template.read_template.Goals as goal

pub returns-in-Ok-clause-sound : goal.returns-in-Ok-clause-sound
returns-in-Ok-clause-sound c =
    let w = template_view c.in-Ok.read.template in
    let s = c.in-Ok.ensures.sound in
    let whole = nothing_left w.0 w.1 c.args.text.now c.in-Ok.read.rest.now s.0 in
    (subst (SpellsParts false w.0 w.1 c.args.text.now) whole s.0, omega (arith, s.1, s.2))
