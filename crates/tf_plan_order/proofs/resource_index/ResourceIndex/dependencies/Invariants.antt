use Rattle.std.proofs.Common.{◌≡◌, map, take}
use Rattle.std.specs.List.{flat_map}
use Rattle.tf_plan_order.specs.Dependencies.{resource_pairs}
use Rattle.tf_plan_order.specs.Table.{numbered_in}
use Rattle.tf_state_data.specs.Resource.{resource_of}
use Rattle.tf_plan_order.proofs.resource_index.ResourceIndex.dependencies.Given as goal

abbrev pub invariant-loop-resource : goal.invariant-loop-resource
invariant-loop-resource l = l.pairs.items ≡ flat_map (resource_pairs (numbered_in l.self)) (map resource_of (take l.resource-index l.resource-items))
