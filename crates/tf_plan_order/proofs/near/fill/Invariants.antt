use Rattle.std.proofs.Common.{◌≡◌, ◌<◌, ℕ, true}
use Rattle.tf_graph.specs.NodeSet.{has}
use Rattle.tf_plan_order.specs.Near.{HasGrown}
use Rattle.tf_plan_order.proofs.near.fill.Given as goal

abbrev pub invariant-loop-place : goal.invariant-loop-place
invariant-loop-place l = record {
  grown : HasGrown l.initial.set l.set;
  added : (k : ℕ) → k < l.place → has l.set k ≡ true;
}
