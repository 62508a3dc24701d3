-- no action so far destroys the object
use Rattle.std.proofs.Common.{◌≡◌, drop, map}
use Rattle.tf_plan_changes.specs.Changes.{old_of}
use Rattle.tf_plan_data.specs.Action.{action_of}
use Rattle.tf_plan_changes.proofs.pairing.old_of.Given as goal

abbrev pub invariant-loop-other : goal.invariant-loop-other
invariant-loop-other l = old_of (action_of l.action) (map action_of (drop l.other-index l.actions)) ≡ old_of (action_of l.action) (map action_of l.actions)
