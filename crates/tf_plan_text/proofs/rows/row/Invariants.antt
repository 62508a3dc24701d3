-- as far as the place the set is the row, and from there on it is empty
use Rattle.std.proofs.Common.{◌≡◌, ◌≤◌, ◌<◌, ◌-◌, ℕ, false, length}
use Rattle.tf_graph.specs.Closure.{reaches}
use Rattle.tf_graph.specs.NodeSet.{has}
use Rattle.tf_plan_text.proofs.rows.row.Given as goal

abbrev pub invariant-loop-next : goal.invariant-loop-next
invariant-loop-next l = record {
  within : l.from ≤ l.closure.nodes;
  long : length l.set ≡ l.closure.nodes;
  before : (k : ℕ) → k < l.from → has l.set k ≡ reaches l.closure l.node k;
  after : (k : ℕ) → l.from ≤ k → has l.set k ≡ false;
}

abbrev pub decreases-loop-next : goal.decreases-loop-next
decreases-loop-next l = l.closure.nodes - l.from
