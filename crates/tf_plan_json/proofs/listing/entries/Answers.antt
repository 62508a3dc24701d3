use Rattle.std.proofs.Common.{[]}
use Rattle.tf_plan_changes.specs.Views.{change_view}
use Rattle.tf_plan_data.specs.Plan.{plan_of}
use Rattle.tf_plan_json.proofs.Counted.{listed}
use Rattle.tf_plan_json.specs.Document.{change_data}
use Rattle.tf_plan_json.specs.Views.{entry_view}
use Rattle.tf_plan_json.proofs.listing.entries.Goals as goal

pub loop-change-preserved : goal.loop-change-preserved
loop-change-preserved c =
    listed entry_view (change_data (plan_of c.args.plan.now)) change_view [] c.loop-change.made.items c.push.new.self.items c.as_slice-change-items.result.now c.loop-change.change-index c.change-item.result c.in_ok-entry_for.field-0
    c.loop-change-test.true c.change-item.is c.loop-change.invariant c.in_ok-push.ensures.items c.in_ok-entry_for.ensures
