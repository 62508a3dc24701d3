use Rattle.std.proofs.lemmas.Result.{on_ok_weaker}
use Rattle.tf_plan_changes.specs.Views.{change_view}
use Rattle.tf_plan_json.proofs.Sent.{inner_sent}
use Rattle.tf_plan_json.proofs.changing.send_inner.Goals as goal

pub returns : goal.returns
returns g c =
    on_ok_weaker c.end_map.result
    (λ e. inner_sent (change_view c.args.change.now) c.inner_count.result _ _ _ _ _ _ _ _ c.inner_count.ensures c.in_ok-begin_map.ensures (_, c.in_ok-key.ensures, c.in_ok-send_actions.ensures) (_, c.in_ok-key-2.ensures, c.in_ok-send_object.ensures)
    (_, c.in_ok-key-3.ensures, c.in_ok-send_after_unknown.ensures) (_, c.in_ok-key-4.ensures, c.in_ok-send_object-2.ensures) c.in_ok-send_paths.ensures e)
    c.end_map.ensures
