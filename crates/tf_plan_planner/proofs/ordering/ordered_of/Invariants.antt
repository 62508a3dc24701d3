-- what the order sees of the actions so far
use Rattle.std.proofs.Common.{◌≡◌, map, take}
use Rattle.tf_plan_data.specs.Action.{action_of}
use Rattle.tf_plan_data.specs.Precedence.{ordered}
use Rattle.tf_plan_planner.proofs.ordering.ordered_of.Given as goal

abbrev pub invariant-loop-action : goal.invariant-loop-action
invariant-loop-action l = l.seen.items ≡ map ordered (map action_of (take l.action-index l.actions))
