use Rattle.tf_laws.proofs.PlansAreOne.{refusals_one}
use Rattle.tf_laws.proofs.plans.refusals_are_one.Goals as goal

pub returns : goal.returns
returns c = refusals_one
