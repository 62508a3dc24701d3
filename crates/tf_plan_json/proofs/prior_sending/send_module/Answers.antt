use Rattle.std.proofs.Common.{map}
use Rattle.std.proofs.lemmas.Result.{on_ok_weaker}
use Rattle.tf_plan_json.specs.Views.{stored_view}
use Rattle.tf_plan_json.proofs.Sent.{module_sent}
use Rattle.tf_plan_json.proofs.prior_sending.send_module.Goals as goal

pub returns : goal.returns
returns g c =
    on_ok_weaker c.end_map.result
    (λ done. module_sent (map stored_view c.args.objects.now) c.has_objects.result c.from.result _ _ _ _ c.has_objects.ensures c.from.ensures c.in_ok-begin_map.ensures c.in_ok-send_objects.ensures done)
    c.end_map.ensures
