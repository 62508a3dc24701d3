use Rattle.std.proofs.Common.{◌≡◌, ℕ, true, take}
use Rattle.std.specs.Prelude.{Contains}
use Rattle.tf_graph.specs.NodeSet.{has}
use Rattle.tf_plan_order.specs.Near.{HasGrown}
use Rattle.tf_plan_order.proofs.near.add_places.Given as goal

abbrev pub invariant-loop-place : goal.invariant-loop-place
invariant-loop-place l = record {
  grown : HasGrown l.initial.set l.set;
  added : (k : ℕ) → Contains (take l.place-index l.places) k → has l.set k ≡ true;
}
