use Rattle.std.proofs.Common.{◌≡◌, map, take}
use Rattle.tf_config_names.specs.Table.{names_in}
use Rattle.tf_plan_order.specs.ResourceRef.{resource_ref_of}
use Rattle.tf_plan_order.specs.ResourceIndex.{a_name}
use Rattle.tf_plan_order.proofs.resource_index.numbered_names.Given as goal

abbrev pub invariant-loop-place : goal.invariant-loop-place
invariant-loop-place l = map resource_ref_of l.numbered.items ≡ map a_name (take l.place (names_in l.names))
