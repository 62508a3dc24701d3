use Rattle.std.proofs.Common.{◌≡◌, ℕ, length, take}
use Rattle.tf_graph.specs.Digraph.{sources_into, targets_from}
use Rattle.tf_graph.specs.Lists.{row}
use Rattle.tf_graph.proofs.graph.neighbours.Given as goal

abbrev pub invariant-loop-from : goal.invariant-loop-from
invariant-loop-from l = record {
  sources_long : length l.before.items ≡ l.nodes;
  sources : (n : ℕ) → row l.before.items n ≡ sources_into (take l.from-index l.edges) n;
  targets_long : length l.after.items ≡ l.nodes;
  targets : (n : ℕ) → row l.after.items n ≡ targets_from (take l.from-index l.edges) n;
}
