-- the objects of the resources so far
use Rattle.std.proofs.Common.{◌≡◌, map, take}
use Rattle.std.specs.List.{flat_map}
use Rattle.tf_plan_json.specs.Prior.{objects_of}
use Rattle.tf_plan_json.specs.Views.{stored_view}
use Rattle.tf_state_data.specs.Resource.{resource_of}
use Rattle.tf_plan_json.proofs.prior.stored_objects.Given as goal

abbrev pub invariant-loop-resource : goal.invariant-loop-resource
invariant-loop-resource l = map stored_view l.objects.items ≡ flat_map objects_of (map resource_of (take l.resource-index l.resource-items))
