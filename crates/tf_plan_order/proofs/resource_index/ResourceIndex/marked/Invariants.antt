use Rattle.std.proofs.Common.{◌≡◌, map, take}
use Rattle.tf_plan_order.specs.Marks.{is_marked}
use Rattle.tf_plan_order.specs.Table.{numbered_in}
use Rattle.tf_plan_order.proofs.resource_index.ResourceIndex.marked.Given as goal

abbrev pub invariant-loop-place : goal.invariant-loop-place
invariant-loop-place l = l.marked.items ≡ take l.place (map is_marked (numbered_in l.self))
