-- the records so far that stay
use Rattle.std.proofs.Common.{◌≡◌, ◌++◌, filter, map, take}
use Rattle.tf_config_address.specs.ResourceAddr.{addr_of}
use Rattle.tf_plan_data.specs.Plan.{plan_of}
use Rattle.tf_state_data.specs.Record.{record_of}
use Rattle.tf_walk_buffers.specs.MetadataUpdates.{stays}
use Rattle.tf_walk_buffers.specs.Unchanged.{unchanged_record, unchanged_record_of}
use Rattle.tf_walk_buffers.proofs.unchanged.add_records.Given as goal

abbrev pub invariant-loop-kept : goal.invariant-loop-kept
invariant-loop-kept l =
    map unchanged_record_of l.found.items
    ≡ map unchanged_record_of l.fn.found.items ++ map (unchanged_record (addr_of l.addr) l.number) (filter (stays (plan_of l.plan) l.number) (map record_of (take l.kept-index l.records)))
