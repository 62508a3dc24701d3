use Rattle.std.proofs.Common.{◌≡◌, ◌<◌, ℕ, true}
use Rattle.std.specs.Prelude.{Contains}
use Rattle.tf_graph.specs.NodeSet.{has}
use Rattle.tf_plan_order.proofs.late.places_of.Given as goal

abbrev pub invariant-loop-place : goal.invariant-loop-place
invariant-loop-place l = record {
  led : (n : ℕ) → Contains l.places.items n → has l.marked n ≡ true;
  found : (n : ℕ) → n < l.place → has l.marked n ≡ true → Contains l.places.items n;
}
