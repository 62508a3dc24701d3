use Rattle.std.proofs.Common.{◌≡◌, ◌<◌, ℕ, true, length}
use Rattle.std.specs.Prelude.{◌↔◌}
use Rattle.tf_expand_keys.specs.Needed.{IsNeededBy}
use Rattle.tf_graph.specs.NodeSet.{has}
use Rattle.tf_expand_keys.proofs.needed.needed_by.Given as goal

abbrev pub invariant-loop-place : goal.invariant-loop-place
invariant-loop-place l = record { long : length l.needed.items ≡ l.place; marked : (n : ℕ) → n < l.place → (has l.needed.items n ≡ true) ↔ IsNeededBy (λ a. has l.marked a ≡ true) l.dependence n }
