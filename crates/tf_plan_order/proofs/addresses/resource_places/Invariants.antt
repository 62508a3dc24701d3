use Rattle.std.proofs.Common.{◌≡◌, filter}
use Rattle.std.specs.List.{range_with_len}
use Rattle.tf_plan_order.specs.AddressOrder.{is_resource}
use Rattle.tf_plan_order.proofs.addresses.resource_places.Given as goal
use Rattle.tf_plan_order.specs.Table.{numbered_in}

abbrev pub invariant-loop-place : goal.invariant-loop-place
invariant-loop-place l = l.places.items ≡ filter (is_resource (numbered_in l.resource_index)) (range_with_len 0 l.place)
