use Rattle.tf_expr.proofs.Limiting.{templates_same, expressions_same}
use Rattle.tf_expr.proofs.laws.limits_keep_meanings.Goals as goal

pub returns : goal.returns
returns c = record { templates = templates_same; expressions = expressions_same }
