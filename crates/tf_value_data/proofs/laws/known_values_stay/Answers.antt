use Rattle.tf_value_data.proofs.Order.{Refines-known}
use Rattle.tf_value_data.proofs.laws.known_values_stay.Goals as goal

pub returns : goal.returns
returns c = Refines-known
