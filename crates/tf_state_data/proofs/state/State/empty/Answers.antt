use Rattle.std.specs.List.Sorted.{IsStrictlySortedBy}
use Rattle.tf_state_data.proofs.state.State.empty.Goals as goal

-- no resources are in order
pub invariant_of-result : goal.invariant_of-result
unfolding IsStrictlySortedBy
invariant_of-result c = rw c.new-2.ensures.items (record { ordered = tt })
