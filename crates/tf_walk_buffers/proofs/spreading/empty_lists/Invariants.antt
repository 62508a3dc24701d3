use Rattle.std.proofs.Common.{◌≡◌, ℕ, length, []}
use Rattle.tf_graph.specs.Lists.{row}
use Rattle.tf_walk_buffers.proofs.spreading.empty_lists.Given as goal

abbrev pub invariant-loop : goal.invariant-loop
invariant-loop l = record { long : length l.lists.items ≡ l.counter; empty : (n : ℕ) → row l.lists.items n ≡ [] }
