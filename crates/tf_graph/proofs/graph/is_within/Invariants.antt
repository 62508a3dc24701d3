use Rattle.std.proofs.Common.{◌<◌, ℕ}
use Rattle.tf_graph.specs.Digraph.{edge_at}
use Rattle.tf_graph.proofs.graph.is_within.Given as goal

abbrev pub invariant-loop-from : goal.invariant-loop-from
invariant-loop-from l = record {
  sources : (k : ℕ) → k < l.from-index → (edge_at l.edges k).0 < l.nodes;
  targets : (k : ℕ) → k < l.from-index → (edge_at l.edges k).1 < l.nodes;
}
