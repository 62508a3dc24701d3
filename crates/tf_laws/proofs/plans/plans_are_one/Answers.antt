use Rattle.tf_laws.proofs.PlansAreOne.{plans_one, texts_one}
use Rattle.tf_laws.proofs.plans.plans_are_one.Goals as goal

pub returns : goal.returns
returns c = record { plans = plans_one; texts = texts_one }
