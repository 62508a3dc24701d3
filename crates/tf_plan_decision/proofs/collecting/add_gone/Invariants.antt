use Rattle.std.proofs.Common.{◌≡◌, drop, map, option_map}
use Rattle.tf_plan_decision.proofs.collecting.add_gone.Given as goal
use Rattle.tf_plan_decision.specs.Collecting.{with_members}
use Rattle.tf_plan_decision.specs.Deciding.{decided_of, of_view}
use Rattle.tf_plan_decision.specs.Outcome.{orphan_outcome}
use Rattle.tf_plan_order.specs.MemberViews.{member_of}

abbrev pub invariant-loop-index : goal.invariant-loop-index
invariant-loop-index l =
    let becomes = orphan_outcome (option_map (λ s. s.now) l.schema) in
    with_members (of_view l.of) becomes l.index (map member_of (drop l.index l.members)) (decided_of l.decided)
    ≡ with_members (of_view l.of) becomes 0 (map member_of l.members) (decided_of l.fn.decided)
