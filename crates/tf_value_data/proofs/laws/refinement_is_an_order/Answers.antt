use Rattle.tf_value_data.proofs.Order.{Refines-refl, Refines-trans, Refines-antisymm}
use Rattle.tf_value_data.proofs.Refining.{refined_Decides}
use Rattle.tf_value_data.proofs.laws.refinement_is_an_order.Goals as goal

pub returns : goal.returns
returns c = record { reflexive = Refines-refl; transitive = Refines-trans; antisymmetric = Refines-antisymm; tested = refined_Decides }
