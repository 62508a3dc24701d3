-- the records that stay of the resources so far
use Rattle.std.proofs.Common.{◌≡◌, map, take}
use Rattle.std.specs.List.{flat_map}
use Rattle.tf_plan_data.specs.Plan.{plan_of}
use Rattle.tf_state_data.specs.Resource.{resource_of}
use Rattle.tf_walk_buffers.specs.Unchanged.{unchanged_record_of, unchanged_records_of}
use Rattle.tf_walk_buffers.proofs.unchanged.unchanged_records.Given as goal

abbrev pub invariant-loop-resource : goal.invariant-loop-resource
invariant-loop-resource l = map unchanged_record_of l.found.items ≡ flat_map (unchanged_records_of (plan_of l.plan)) (map resource_of (take l.resource-index l.resource-items))
