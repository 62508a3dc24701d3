use Rattle.tf_laws.proofs.PlansAreOne.{plans_not_refused}
use Rattle.tf_laws.proofs.plans.plans_are_not_refused.Goals as goal

pub returns : goal.returns
returns c = plans_not_refused
