use Rattle.std.proofs.Common.{◌≡◌, ◌≤◌, ◌+◌, ℕ, List, Bool, length, drop, slice_index, vec_len}
use Rattle.tf_graph.specs.Removal.{times, total, IsRemoval}
use Rattle.tf_graph.proofs.strip.release.Given as goal

abbrev pub invariant-loop-next : goal.invariant-loop-next
invariant-loop-next l = record {
  length : length l.removal.remaining.items ≡ l.graph.nodes;
  enough : (s : ℕ) → times s (drop l.next-index l.next-items) ≤ slice_index l.removal.remaining.items s;
  removal : (left : List Bool)
      → IsRemoval l.graph left l.initial.removal.remaining.items l.initial.removal.free.items l.next-items
      → IsRemoval l.graph left l.removal.remaining.items l.removal.free.items (drop l.next-index l.next-items);
  smaller : total l.removal.remaining.items + vec_len l.removal.free ≤ total l.initial.removal.remaining.items + vec_len l.initial.removal.free;
}
