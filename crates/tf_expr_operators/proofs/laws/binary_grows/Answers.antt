use Rattle.tf_expr_operators.proofs.Growth.{binary_value-grows}
use Rattle.tf_expr_operators.proofs.laws.binary_grows.Goals as goal

pub returns : goal.returns
returns c = binary_value-grows
