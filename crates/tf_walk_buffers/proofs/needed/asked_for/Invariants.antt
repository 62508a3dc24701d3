use Rattle.std.proofs.Common.{◌≡◌, length, map, take}
use Rattle.std.specs.List.{AllByRecursion}
use Rattle.tf_plan_data.specs.Action.{action_of}
use Rattle.tf_walk_buffers.specs.Needed.{IsAsked}
use Rattle.tf_walk_buffers.proofs.needed.asked_for.Given as goal

abbrev pub invariant-loop-action : goal.invariant-loop-action
invariant-loop-action l = record { long : length l.asked ≡ l.count; asked : AllByRecursion (IsAsked l.asked) (map action_of (take l.action-index l.actions)) }
