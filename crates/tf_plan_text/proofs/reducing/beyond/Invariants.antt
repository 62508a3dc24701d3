-- what the rows of the successors so far have
use Rattle.std.proofs.Common.{◌≡◌, ℕ, length, take}
use Rattle.std.specs.List.{list_any}
use Rattle.tf_graph.specs.NodeSet.{has}
use Rattle.tf_graph.specs.Search.{row_of}
use Rattle.tf_plan_text.proofs.reducing.beyond.Given as goal

abbrev pub invariant-loop-next : goal.invariant-loop-next
invariant-loop-next l = record {
  long : length l.set ≡ l.graph.nodes;
  beyond : (b : ℕ) → has l.set b ≡ list_any (λ c. has (row_of l.rows c) b) (take l.next-index l.next-items);
}
