use Rattle.tf_expr_operators.proofs.Growing.{call_value-grows}
use Rattle.tf_expr_operators.proofs.laws.calls_grow.Goals as goal

pub returns : goal.returns
returns c = call_value-grows
