use Rattle.tf_expr_operators.proofs.Growing.{joined_value-grows}
use Rattle.tf_expr_operators.proofs.laws.joined_grows.Goals as goal

pub returns : goal.returns
returns c = joined_value-grows
