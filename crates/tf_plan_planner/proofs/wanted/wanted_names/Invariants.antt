use Rattle.std.proofs.Common.{◌≡◌, ◌<◌, ◌||◌, ℕ, length}
use Rattle.tf_graph.specs.NodeSet.{has}
use Rattle.tf_plan_planner.proofs.wanted.wanted_names.Given as goal

abbrev pub invariant-loop-place : goal.invariant-loop-place
invariant-loop-place l = record {
  long : length l.wanted.items ≡ l.place;
  each : (n : ℕ) → n < l.place → has l.wanted.items n ≡ has l.by_resources.items n || has l.named.items n || has l.by_named.items n;
}
