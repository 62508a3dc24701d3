use Rattle.std.proofs.Common.{map}
use Rattle.tf_plan_decision.proofs.Along.{AreGathered}
use Rattle.tf_plan_decision.proofs.whole.gather.Given as goal
use Rattle.tf_plan_decision.specs.Deciding.{decided_of}
use Rattle.tf_plan_decision.specs.Rows.{rows_of}
use Rattle.tf_plan_order.specs.Table.{numbered_in}

abbrev pub invariant-loop-place : goal.invariant-loop-place
invariant-loop-place g l =
    AreGathered (map (λ b. (goal.Provider-dyn g (b.vtable, b.value)).meaning b.value) l.providers) (numbered_in l.resource_index) l.order (rows_of l.fn.rows.items) l.place-index (rows_of l.left.items) (decided_of l.decided)
