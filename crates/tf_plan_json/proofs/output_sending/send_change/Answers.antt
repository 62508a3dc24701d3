use Rattle.std.proofs.lemmas.Result.{on_ok_weaker}
use Rattle.tf_plan_json.proofs.Sent.{action_sent, after_sent, output_change_sent, unknown_sent}
use Rattle.tf_plan_outputs.specs.Views.{change_view}
use Rattle.tf_plan_json.proofs.output_sending.send_change.Goals as goal

pub returns : goal.returns
returns g c =
    on_ok_weaker c.end_map.result
    (λ done. output_change_sent (change_view c.args.output.now) _ _ _ _ _ _ _ _ _ c.in_ok-begin_map.ensures (_, c.in_ok-key.ensures, action_sent _ _ _ _ c.action.ensures c.in_ok-send_action.ensures)
    (_, c.in_ok-key-2.ensures, after_sent _ _ _ _ c.as_ref.ensures.value c.in_ok-send_object.ensures) (_, c.in_ok-key-3.ensures, c.in_ok-bool.ensures)
    (_, c.in_ok-key-4.ensures, unknown_sent _ _ _ _ c.as_ref-2.ensures.value c.in_ok-send_unknown_parts.ensures) (_, c.in_ok-key-5.ensures, c.in_ok-send_object-2.ensures) (_, c.in_ok-key-6.ensures, c.in_ok-bool-2.ensures) done)
    c.end_map.ensures
