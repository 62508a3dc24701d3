use Rattle.std.proofs.Common.{◌∙◌, ap, map}
use Rattle.tf_plan_json.proofs.Counted.{listed}
use Rattle.tf_plan_json.specs.Prior.{record_data}
use Rattle.tf_plan_json.specs.Views.{stored_view}
use Rattle.tf_state_data.specs.Record.{record_of}
use Rattle.tf_state_data.specs.Resource.{resource_of}
use Rattle.tf_plan_json.proofs.prior.add_objects.Goals as goal

pub loop-instance-preserved : goal.loop-instance-preserved
loop-instance-preserved c =
    let addr = (resource_of c.args.resource.now).addr in
    let shown = c.in_ok-stored_for.ensures ∙ ap (λ a. record_data a (record_of c.instance-item.result)) c.addr.ensures in
    listed stored_view (record_data addr) record_of (map stored_view c.args.objects.now.items) c.loop-instance.objects.items c.push.new.self.items c.records-instance-items.result.now c.loop-instance.instance-index c.instance-item.result c.in_ok-stored_for.field-0
    c.loop-instance-test.true c.instance-item.is c.loop-instance.invariant c.in_ok-push.ensures.items shown
