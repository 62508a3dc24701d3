use Rattle.tf_expr_eval.proofs.Within.{Bounds, template_within, expr_within}
use Rattle.tf_expr_eval.proofs.laws.values_are_within_limits.Goals as goal

pub returns : goal.returns
returns c =
    let law = c.answers_are_within_limits.ensures in
    let bounds : Bounds = record { operators = law.operators; parts = law.parts; collections = law.collections; calls = law.calls } in
    record { templates = template_within bounds; expressions = expr_within bounds }
