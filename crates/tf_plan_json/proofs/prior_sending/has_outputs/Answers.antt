use Rattle.tf_plan_json.proofs.Sent.{outputs_there}
use Rattle.tf_plan_json.proofs.prior_sending.has_outputs.Goals as goal

pub returns : goal.returns
returns c = outputs_there c.args.outputs.now.entries c.is_empty.result c.is_empty.ensures
