use Rattle.tf_plan_decision.proofs.Exact.{fits_exactly}
use Rattle.tf_plan_decision.proofs.laws.fitting_objects_have_attributes.Goals as goal

pub returns : goal.returns
returns c = fits_exactly
