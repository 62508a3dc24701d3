use Rattle.tf_expr_operators.proofs.Knowing.{unary_value-known, binary_value-known, attribute_value-known, index_value-known, list_value-known, map_value-known, joined_value-known, call_value-known}
use Rattle.tf_expr_operators.proofs.laws.known_stays_known.Goals as goal

pub returns : goal.returns
returns c = record { operators = (unary_value-known, binary_value-known); parts = (attribute_value-known, index_value-known); collections = (list_value-known, map_value-known, joined_value-known); calls = call_value-known }
