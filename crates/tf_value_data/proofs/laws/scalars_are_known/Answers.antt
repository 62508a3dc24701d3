use Rattle.tf_value_data.proofs.Scalars.{scalar-known}
use Rattle.tf_value_data.proofs.laws.scalars_are_known.Goals as goal

pub returns : goal.returns
returns c = scalar-known
