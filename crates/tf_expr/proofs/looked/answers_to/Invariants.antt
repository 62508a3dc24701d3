use Rattle.std.proofs.Common.{◌≡◌, map, drop}
use Rattle.tf_expr_syntax.specs.TemplateNames.{reference_of}
use Rattle.tf_expr.specs.Looked.{answers_of, answers_to, with_answers}
use Rattle.tf_expr.specs.WithinLimits.{within_limits}
use Rattle.tf_expr.proofs.looked.answers_to.Given as goal

abbrev pub invariant-loop-reference : goal.invariant-loop-reference
invariant-loop-reference g l =
    with_answers (within_limits (g.S.LookUp.environment l.scope)) (answers_of l.answers.items) (map (λ r. reference_of r.now) (drop l.reference-index l.references))
    ≡ answers_to (within_limits (g.S.LookUp.environment l.scope)) (map (λ r. reference_of r.now) l.references)
