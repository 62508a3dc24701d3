-- the refusals so far, with those of the instances that are left
use Rattle.std.proofs.Common.{◌≡◌, ◌++◌, map}
use Rattle.std.specs.Vec.Iter.{into_iter_items}
use Rattle.tf_plan_decision.specs.Deciding.{refused_of}
use Rattle.tf_config_refusal.specs.Refusal.{refusal_of}
use Rattle.tf_plan_planner.specs.Told.{instance_told}
use Rattle.tf_plan_planner.proofs.telling.refusals_of.Given as goal

abbrev pub invariant-loop-instance : goal.invariant-loop-instance
invariant-loop-instance l =
    map refusal_of l.refusals.items ++ map instance_told (map refused_of (into_iter_items l.instance-iterator)) ≡ map instance_told (map refused_of l.fn.instances.items)
