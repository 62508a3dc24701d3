use Rattle.std.proofs.Common.{ap, ◌∙◌, map}
use Rattle.tf_expr_syntax.specs.TemplateNames.{reference_of}
use Rattle.tf_expr_syntax.specs.TemplateTree.{template_view}
use Rattle.tf_expr.proofs.Meanings.{template_means}
use Rattle.tf_expr.proofs.looked.looked_up.Goals as goal

pub returns-clause-meaning : goal.returns-clause-meaning
returns-clause-meaning g c =
    template_means (g.S.LookUp.environment c.args.scope.now) (template_view c.args.template.now) (map (λ r. reference_of r.now) c.as_slice.result.now) c.answers_to.result c.meaning_is_local.ensures.templates
    (ap (map (λ r. reference_of r.now)) c.as_slice.ensures.value ∙ c.in_ok-names.ensures.named) c.answers_to.ensures.answers
