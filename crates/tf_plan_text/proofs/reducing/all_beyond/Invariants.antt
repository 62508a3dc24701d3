-- the sets of the nodes so far
use Rattle.std.proofs.Common.{◌≡◌, ◌<◌, ℕ, length}
use Rattle.tf_graph.specs.NodeSet.{has}
use Rattle.tf_graph.specs.Search.{row_of, AreLong}
use Rattle.tf_plan_text.specs.Beyond.{is_beyond}
use Rattle.tf_plan_text.proofs.reducing.all_beyond.Given as goal

abbrev pub invariant-loop-node : goal.invariant-loop-node
invariant-loop-node l = record {
  count : length l.sets.items ≡ l.node;
  long : AreLong l.graph.nodes l.sets.items;
  beyond : (a b : ℕ) → a < l.node → has (row_of l.sets.items a) b ≡ is_beyond l.rows l.graph a b;
}
