use Rattle.tf_laws.proofs.Finding.{planned_or_refused}
use Rattle.tf_laws.proofs.plans.planned_or_refused.Goals as goal

pub returns : goal.returns
returns c = planned_or_refused
