-- the rows of the nodes so far
use Rattle.std.proofs.Common.{◌≡◌, ◌<◌, ℕ, length}
use Rattle.tf_graph.specs.Closure.{reaches}
use Rattle.tf_graph.specs.NodeSet.{has}
use Rattle.tf_graph.specs.Search.{row_of, AreLong}
use Rattle.tf_plan_text.proofs.rows.all_rows.Given as goal

abbrev pub invariant-loop-node : goal.invariant-loop-node
invariant-loop-node l = record {
  count : length l.rows.items ≡ l.node;
  long : AreLong l.closure.nodes l.rows.items;
  rows : (a b : ℕ) → a < l.node → has (row_of l.rows.items a) b ≡ reaches l.closure a b;
}
