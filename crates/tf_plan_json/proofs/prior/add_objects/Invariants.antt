-- the objects so far, behind those of other resources
use Rattle.std.proofs.Common.{◌≡◌, ◌++◌, map, take}
use Rattle.tf_plan_json.specs.Prior.{record_data}
use Rattle.tf_plan_json.specs.Views.{stored_view}
use Rattle.tf_state_data.specs.Record.{record_of}
use Rattle.tf_state_data.specs.Resource.{resource_of}
use Rattle.tf_plan_json.proofs.prior.add_objects.Given as goal

abbrev pub invariant-loop-instance : goal.invariant-loop-instance
invariant-loop-instance l =
    map stored_view l.objects.items ≡ map stored_view l.fn.objects.items ++ map (record_data (resource_of l.resource).addr) (map record_of (take l.instance-index l.instance-items))
