use Rattle.std.proofs.Common.{◌≡◌, ℕ, length, []}
use Rattle.tf_graph.specs.Lists.{row}
use Rattle.tf_graph.proofs.graph.empty_lists.Given as goal

abbrev pub invariant-loop-count : goal.invariant-loop-count
invariant-loop-count l = record { long : length l.lists.items ≡ l.count-index; empty : (n : ℕ) → row l.lists.items n ≡ [] }
