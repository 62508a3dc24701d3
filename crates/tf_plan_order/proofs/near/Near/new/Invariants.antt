use Rattle.tf_plan_order.specs.Near.{IsKept}
use Rattle.tf_plan_order.proofs.near.Near.new.Given as goal

abbrev pub invariant-loop-place : goal.invariant-loop-place
invariant-loop-place l = IsKept l.ties l.actions l.place l.own.items l.early.items
