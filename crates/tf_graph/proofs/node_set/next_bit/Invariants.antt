use Rattle.std.proofs.Common.{◌≡◌, ◌*◌, ◌<◌, ◌≤◌, ℕ, false}
use Rattle.tf_graph.specs.NodeSet.{bit_of}
use Rattle.tf_graph.proofs.node_set.next_bit.Given as goal

abbrev pub invariant-loop-next : goal.invariant-loop-next
invariant-loop-next l = (j : ℕ) → l.from ≤ j → j < l.next * 64 → bit_of l.words j ≡ false
