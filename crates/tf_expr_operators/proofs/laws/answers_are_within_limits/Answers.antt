use Rattle.tf_expr_operators.proofs.Bounds.{unary_value-within, binary_value-within, attribute_value-within, index_value-within, list_value-within, map_value-within, joined_value-within, call_value-within}
use Rattle.tf_expr_operators.proofs.laws.answers_are_within_limits.Goals as goal

pub returns : goal.returns
returns c = record { operators = (unary_value-within, binary_value-within); parts = (attribute_value-within, index_value-within); collections = (list_value-within, map_value-within, joined_value-within); calls = call_value-within }
