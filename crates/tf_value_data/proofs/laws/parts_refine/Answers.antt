use Rattle.tf_value_data.proofs.Order.{with_part-refines}
use Rattle.tf_value_data.proofs.laws.parts_refine.Goals as goal

pub returns : goal.returns
returns c = with_part-refines
