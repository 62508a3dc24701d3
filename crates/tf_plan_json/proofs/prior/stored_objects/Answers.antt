use Rattle.std.proofs.Common.{map}
use Rattle.tf_plan_json.proofs.Counted.{gathered}
use Rattle.tf_plan_json.specs.Prior.{objects_of}
use Rattle.tf_plan_json.specs.Views.{stored_view}
use Rattle.tf_state_data.specs.Resource.{resource_of}
use Rattle.tf_plan_json.proofs.prior.stored_objects.Goals as goal

pub loop-resource-preserved : goal.loop-resource-preserved
loop-resource-preserved c =
    gathered objects_of resource_of (map stored_view c.loop-resource.objects.items) (map stored_view c.add_objects.new.objects.items) c.resources-resource-items.result.now c.loop-resource.resource-index c.resource-item.result
    c.loop-resource-test.true c.resource-item.is c.loop-resource.invariant c.in_ok-add_objects.ensures
