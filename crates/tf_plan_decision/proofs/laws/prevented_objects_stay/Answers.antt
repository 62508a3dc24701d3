use Rattle.tf_plan_decision.proofs.Causes.{prevented_stay}
use Rattle.tf_plan_decision.proofs.laws.prevented_objects_stay.Goals as goal

pub returns : goal.returns
returns c = prevented_stay
