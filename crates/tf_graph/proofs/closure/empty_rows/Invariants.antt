use Rattle.std.proofs.Common.{◌≡◌, ℕ, false, length}
use Rattle.tf_graph.specs.NodeSet.{has}
use Rattle.tf_graph.specs.Search.{row_of, AreLong}
use Rattle.tf_graph.proofs.closure.empty_rows.Given as goal

abbrev pub invariant-loop : goal.invariant-loop
invariant-loop l = record {
  count : length l.rows.items ≡ l.counter;
  long : AreLong l.nodes l.rows.items;
  blank : (a b : ℕ) → has (row_of l.rows.items a) b ≡ false;
}
