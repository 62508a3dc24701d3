-- The resources taken, and those still to take, are all.
use Rattle.std.proofs.Common.{◌≡◌, ◌++◌, map}
use Rattle.tf_state.specs.Made.{resources_made}
use Rattle.tf_state.specs.Arrangement.{with_records}
use Rattle.tf_state_data.specs.Resource.{resource_of}
use Rattle.tf_state.proofs.resource_reading.in_order.Given as goal

abbrev pub invariant-loop-addr : goal.invariant-loop-addr
invariant-loop-addr l = map resource_of l.ordered.items ++ with_records (resources_made l.addr-iterator) ≡ with_records (resources_made l.fn.resources.entries)
