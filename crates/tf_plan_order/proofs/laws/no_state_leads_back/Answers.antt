use Rattle.tf_plan_order.proofs.Spreading.{no_state-back}
use Rattle.tf_plan_order.proofs.laws.no_state_leads_back.Goals as goal

pub returns : goal.returns
returns c = no_state-back
