use Rattle.std.proofs.Common.{◌≡◌, ◌++◌, drop, map, option_map}
use Rattle.tf_config_address.specs.ResourceAddr.{addr_of}
use Rattle.tf_config_data.specs.Config.{block_at}
use Rattle.tf_plan_decision.proofs.settling.settle.Given as goal
use Rattle.tf_plan_decision.specs.Outcome.{member_outcome}
use Rattle.tf_plan_decision.specs.Settling.{settled_from, settled_of}
use Rattle.tf_plan_order.specs.MemberViews.{member_of}

-- what becomes of the members so far, and of those to come
abbrev pub invariant-loop-instance : goal.invariant-loop-instance
invariant-loop-instance g l =
    let becomes = member_outcome (option_map (λ s. s.now) l.schema) (block_at (addr_of l.resource.addr.now) l.resource.block.now) (g.S.Scope.environment l.resource.scope.now) in
    map settled_of l.settled.items ++ settled_from becomes l.instance (map member_of (drop l.instance l.members)) ≡ settled_from becomes 0 (map member_of l.members)
