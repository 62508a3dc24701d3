use Rattle.std.proofs.Common.{◌≡◌, ◌++◌, map, take}
use Rattle.std.specs.List.{flat_map}
use Rattle.tf_plan_order.specs.Dependencies.{record_pairs}
use Rattle.tf_plan_order.specs.Table.{numbered_in}
use Rattle.tf_state_data.specs.Record.{record_of}
use Rattle.tf_plan_order.proofs.resource_index.ResourceIndex.add_records.Given as goal

abbrev pub invariant-loop-kept : goal.invariant-loop-kept
invariant-loop-kept l = l.pairs.items ≡ l.fn.pairs.items ++ flat_map (record_pairs (numbered_in l.self) l.place) (map record_of (take l.kept-index l.records))
