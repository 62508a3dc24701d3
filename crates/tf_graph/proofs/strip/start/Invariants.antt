use Rattle.tf_graph.proofs.Removals.{IsStart}
use Rattle.tf_graph.proofs.strip.start.Given as goal

abbrev pub invariant-loop-node : goal.invariant-loop-node
invariant-loop-node l = IsStart l.graph l.removal.remaining.items l.removal.free.items l.node
