-- what is known of the actions so far
use Rattle.std.proofs.Common.{map, take}
use Rattle.tf_plan_data.specs.Action.{action_of}
use Rattle.tf_plan_data.specs.Plan.{plan_of}
use Rattle.tf_walk_buffers.specs.Head.{AreHeads}
use Rattle.tf_walk_buffers.specs.BuffersHead.{buffers_head}
use Rattle.tf_walk_buffers.proofs.reserving_actions.reserve_actions.Given as goal

abbrev pub invariant-loop-action : goal.invariant-loop-action
invariant-loop-action l = AreHeads (plan_of l.plan) (map action_of (take l.action-index l.plan.actions.items)) (map buffers_head l.rooms.items)
