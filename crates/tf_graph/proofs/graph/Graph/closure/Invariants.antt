use Rattle.std.proofs.Common.{◌≡◌, ◌<◌, ℕ, true}
use Rattle.tf_graph.specs.NodeSet.{has}
use Rattle.tf_graph.specs.Search.{IsTold}
use Rattle.tf_graph.proofs.graph.Graph.closure.Given as goal

abbrev pub invariant-loop-node : goal.invariant-loop-node
invariant-loop-node l = IsTold l.self l.rows.items l.known

abbrev pub invariant-loop-node-2 : goal.invariant-loop-node-2
invariant-loop-node-2 l = record {
  told : IsTold l.self l.rows.items l.known;
  done : (k : ℕ) → k < l.node → has l.known k ≡ true;
}
