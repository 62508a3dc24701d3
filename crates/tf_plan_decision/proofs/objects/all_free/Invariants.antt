use Rattle.std.proofs.Common.{◌≡◌, drop, map}
use Rattle.tf_plan_decision.proofs.objects.all_free.Given as goal
use Rattle.tf_plan_decision.specs.Settling.{all_free, settled_of}

-- those that are left to look at decide
abbrev pub invariant-loop-one : goal.invariant-loop-one
invariant-loop-one l = all_free (map settled_of l.settled) ≡ all_free (map settled_of (drop l.one-index l.settled))
