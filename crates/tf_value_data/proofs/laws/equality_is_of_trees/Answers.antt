use Rattle.tf_value_data.specs.Equality.{same_Decides}
use Rattle.tf_value_data.proofs.laws.equality_is_of_trees.Goals as goal

pub returns : goal.returns
returns c = same_Decides
