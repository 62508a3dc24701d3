use Rattle.tf_expr_operators.proofs.Growth.{unary_value-grows}
use Rattle.tf_expr_operators.proofs.laws.unary_grows.Goals as goal

pub returns : goal.returns
returns c = unary_value-grows
