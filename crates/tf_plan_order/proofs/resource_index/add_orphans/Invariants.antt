use Rattle.std.proofs.Common.{◌≡◌, ◌++◌, filter, is_some, map, not, take}
use Rattle.tf_config_data.specs.Names.{addr_pair}
use Rattle.tf_config_names.specs.Places.{found_in}
use Rattle.tf_plan_order.specs.ResourceRef.{resource_ref_of}
use Rattle.tf_plan_order.specs.ResourceIndex.{an_orphan}
use Rattle.tf_state_data.specs.Resource.{resource_of}
use Rattle.tf_plan_order.proofs.resource_index.add_orphans.Given as goal

abbrev pub invariant-loop-resource : goal.invariant-loop-resource
invariant-loop-resource l =
    map resource_ref_of l.numbered.items
    ≡ map resource_ref_of l.fn.numbered.items ++ map an_orphan (filter (λ r. not (is_some (found_in l.blocks (addr_pair r.addr)))) (map resource_of (take l.resource-index l.resources)))
