use Rattle.std.proofs.Common.{◌≡◌, map}
use Rattle.std.specs.Vec.Iter.{into_iter_items}
use Rattle.tf_plan_decision.proofs.collecting.Decided.add_settled.Given as goal
use Rattle.tf_plan_decision.specs.Collecting.{with_settled}
use Rattle.tf_plan_decision.specs.Deciding.{decided_of, of_view}
use Rattle.tf_plan_decision.specs.Settling.{settled_of}

-- what is decided so far with those to come is what is decided of all
abbrev pub invariant-loop-one : goal.invariant-loop-one
invariant-loop-one l = with_settled (of_view l.of) (map settled_of (into_iter_items l.one-iterator)) (decided_of l.self) ≡ with_settled (of_view l.of) (map settled_of l.fn.settled.items) (decided_of l.fn.self)
