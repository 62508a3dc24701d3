use Rattle.std.proofs.Common.{◌≡◌, ◌≤◌, ◌<◌, ◌-◌, ℕ, false, length}
use Rattle.std.specs.Prelude.{◌&&◌}
use Rattle.tf_graph.specs.Closure.{reaches}
use Rattle.tf_graph.specs.NodeSet.{has}
use Rattle.tf_walk_buffers.proofs.spreading.next_common.Given as goal

abbrev pub invariant-loop-reached : goal.invariant-loop-reached
invariant-loop-reached l = record {
  on : l.from ≤ l.at;
  none : (k : ℕ) → l.from ≤ k → k < l.at → (reaches l.table l.node k && has l.asked k) ≡ false;
}

abbrev pub decreases-loop-reached : goal.decreases-loop-reached
decreases-loop-reached l = length l.asked - l.at
