use Rattle.std.proofs.Common.{◌≡◌, length}
use Rattle.tf_graph.proofs.graph.empty_neighbours.Given as goal

abbrev pub invariant-loop-from : goal.invariant-loop-from
invariant-loop-from l = record { into_long : length l.into.items ≡ l.nodes; out_of_long : length l.out_of.items ≡ l.nodes }
