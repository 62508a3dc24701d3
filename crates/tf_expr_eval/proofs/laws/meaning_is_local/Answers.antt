use Rattle.tf_expr_eval.proofs.Locality.{templates_local, expressions_local}
use Rattle.tf_expr_eval.proofs.laws.meaning_is_local.Goals as goal

pub returns : goal.returns
returns c = record { templates = templates_local; expressions = expressions_local }
