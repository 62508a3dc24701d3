use Rattle.std.proofs.lemmas.Result.{on_ok_weaker}
use Rattle.tf_plan_json.proofs.Sent.{outputs_sent}
use Rattle.tf_plan_json.proofs.prior_sending.send_outputs.Goals as goal

pub returns : goal.returns
returns g c =
    on_ok_weaker c.send_each_output.result (λ sent. outputs_sent c.args.outputs.now.entries c.is_empty.result _ _ _ c.is_empty.ensures c.if-is_empty.false c.in_ok-key.ensures sent) c.send_each_output.ensures
