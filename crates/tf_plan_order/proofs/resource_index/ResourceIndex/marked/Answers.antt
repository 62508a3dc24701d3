use Rattle.std.proofs.Common.{◌∙◌}
use Rattle.tf_plan_order.proofs.Placing.{marks-next}
use Rattle.tf_plan_order.specs.Table.{numbered_in}
use Rattle.tf_plan_order.proofs.resource_index.ResourceIndex.marked.Goals as goal

pub loop-place-preserved : goal.loop-place-preserved
loop-place-preserved c =
    c.in_ok-push.ensures.items
    ∙ marks-next (numbered_in c.args.self.now) c.loop-place.place c.loop-place.marked.items c.is_marked.result c.loop-place.invariant c.is_marked.ensures
