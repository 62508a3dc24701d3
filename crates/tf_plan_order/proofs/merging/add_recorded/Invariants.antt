use Rattle.std.proofs.Common.{◌≡◌, map, drop}
use Rattle.tf_plan_order.specs.Members.{recorded_keys, with_keys}
use Rattle.tf_plan_order.specs.MemberViews.{keys_in}
use Rattle.tf_plan_order.proofs.merging.add_recorded.Given as goal
use Rattle.tf_state_data.specs.Record.{record_of}

abbrev pub invariant-loop-kept : goal.invariant-loop-kept
invariant-loop-kept l =
    with_keys (keys_in l.known) (recorded_keys (map record_of (drop l.kept-index l.records))) ≡ with_keys (keys_in l.fn.known) (recorded_keys (map record_of l.records))
