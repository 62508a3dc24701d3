use Rattle.std.specs.List.Sorted.{IsStrictlySortedBy}
use Rattle.tf_state_data.proofs.resource.Resource.empty.Goals as goal

-- no records are in order
pub invariant_of-result : goal.invariant_of-result
unfolding IsStrictlySortedBy
invariant_of-result c = rw c.new-records.ensures.items (record { ordered = tt })
