use Rattle.tf_expr_operators.proofs.Growth.{list_value-grows, map_value-grows}
use Rattle.tf_expr_operators.proofs.laws.collections_grow.Goals as goal

pub returns : goal.returns
returns c = record { list = list_value-grows; map = map_value-grows }
