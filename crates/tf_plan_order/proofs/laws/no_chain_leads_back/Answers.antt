use Rattle.tf_plan_order.proofs.Chains.{no_chain-back}
use Rattle.tf_plan_order.proofs.laws.no_chain_leads_back.Goals as goal

pub returns : goal.returns
returns c = no_chain-back
