use Rattle.std.proofs.Common.{[], ◌+◌, vec_len}
use Rattle.tf_graph.specs.Removal.{total, IsRemoval, IsTaken}
use Rattle.tf_graph.proofs.strip.take_all.Given as goal

abbrev pub invariant-loop-node : goal.invariant-loop-node
invariant-loop-node l = record {
  removal : IsRemoval l.graph l.left.items l.removal.remaining.items l.removal.free.items [];
  taken : IsTaken l.graph l.left.items l.order.items;
}

abbrev pub decreases-loop-node : goal.decreases-loop-node
decreases-loop-node l = total l.removal.remaining.items + vec_len l.removal.free
