use Rattle.tf_expr_operators.proofs.Growth.{attribute_value-grows, index_value-grows}
use Rattle.tf_expr_operators.proofs.laws.parts_grow.Goals as goal

pub returns : goal.returns
returns c = record { attribute = attribute_value-grows; index = index_value-grows }
