use Rattle.tf_plan_decision.proofs.Local.{stage_local}
use Rattle.tf_plan_decision.proofs.locality.deciding_is_local.Goals as goal

pub returns : goal.returns
returns c = stage_local
