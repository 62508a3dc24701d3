use Rattle.std.proofs.Common.{◌≡◌, ℕ, true, take}
use Rattle.std.specs.Prelude.{Contains}
use Rattle.tf_graph.specs.NodeSet.{has}
use Rattle.tf_plan_order.specs.Before.{are_halves}
use Rattle.tf_plan_order.specs.Near.{HasGrown}
use Rattle.tf_plan_order.specs.Order.{action_at}
use Rattle.tf_plan_order.proofs.near.add_halves.Given as goal

abbrev pub invariant-loop-place : goal.invariant-loop-place
invariant-loop-place l = record {
  grown : HasGrown l.initial.set l.set;
  added : (k : ℕ) → Contains (take l.place-index l.places) k → are_halves (action_at l.actions k) l.action ≡ true → has l.set k ≡ true;
}
