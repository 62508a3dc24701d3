use Rattle.std.proofs.Common.{◌∙◌, ap, map}
use Rattle.tf_config_names.specs.Table.{names_in}
use Rattle.tf_plan_order.proofs.Placing.{names-next}
use Rattle.tf_plan_order.specs.ResourceRef.{resource_ref_of}
use Rattle.tf_plan_order.proofs.resource_index.numbered_names.Goals as goal

pub loop-place-preserved : goal.loop-place-preserved
loop-place-preserved c =
    ap (map resource_ref_of) c.in_ok-push.ensures.items
    ∙ names-next c.loop-place.numbered.items (names_in c.args.names.now) c.loop-place.place c.at.result c.loop-place.invariant c.at.ensures.name
