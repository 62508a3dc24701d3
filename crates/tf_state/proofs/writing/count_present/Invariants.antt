use Rattle.std.proofs.Common.{◌≡◌, ◌+◌, ◌≤◌, length, map, drop}
use Rattle.tf_state_data.specs.Resource.{resource_of}
use Rattle.tf_state.specs.Arrangement.{with_records}
use Rattle.tf_state.proofs.writing.count_present.Given as goal

abbrev pub invariant-loop-resource : goal.invariant-loop-resource
invariant-loop-resource l = record {
  small : l.count ≤ l.resource-index;
  left : l.count + length (with_records (map resource_of (drop l.resource-index l.resources))) ≡ length (with_records (map resource_of l.resources));
}
