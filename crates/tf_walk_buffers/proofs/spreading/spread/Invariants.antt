use Rattle.std.proofs.Common.{◌≡◌, ◌≤◌, ◌<◌, ◌-◌, ◌++◌, ◌∷◌, [], ℕ, cond, length}
use Rattle.std.specs.Prelude.{◌&&◌}
use Rattle.tf_graph.specs.Closure.{reaches}
use Rattle.tf_graph.specs.Lists.{row}
use Rattle.tf_graph.specs.NodeSet.{has}
use Rattle.tf_walk_buffers.proofs.spreading.spread.Given as goal

abbrev pub invariant-loop-next : goal.invariant-loop-next
invariant-loop-next l = record {
  within : l.from ≤ length l.asked;
  count : length l.lists ≡ length l.initial.lists;
  before : (p : ℕ) → p < l.from → row l.lists p ≡ row l.initial.lists p ++ cond (reaches l.table l.place p && has l.asked p) (l.place ∷ []) [];
  after : (p : ℕ) → l.from ≤ p → row l.lists p ≡ row l.initial.lists p;
}

abbrev pub decreases-loop-next : goal.decreases-loop-next
decreases-loop-next l = length l.asked - l.from
