use Rattle.std.proofs.Common.{map}
use Rattle.std.proofs.lemmas.Result.{on_ok_weaker}
use Rattle.tf_plan_json.specs.Views.{stored_view}
use Rattle.tf_plan_json.proofs.Sent.{prior_sent}
use Rattle.tf_state_data.specs.State.{outputs_of}
use Rattle.tf_plan_json.proofs.prior_sending.send_state.Goals as goal

pub returns : goal.returns
returns g c =
    on_ok_weaker c.end_map.result
    (λ done. prior_sent (outputs_of c.args.outputs.now.entries) (map stored_view c.args.objects.now) _ _ _ _ _ _ c.in_ok-begin_map.ensures (_, c.in_ok-key.ensures, c.in_ok-str.ensures) (_, c.in_ok-key-2.ensures, c.in_ok-str-2.ensures)
    (_, c.in_ok-key-3.ensures, c.in_ok-send_values.ensures) done)
    c.end_map.ensures
