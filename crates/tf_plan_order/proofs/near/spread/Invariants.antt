use Rattle.std.proofs.Common.{◌≡◌, ◌≤◌, ◌<◌, ◌-◌, ◌++◌, ◌∷◌, [], ℕ, cond, length}
use Rattle.tf_graph.specs.Closure.{reaches}
use Rattle.tf_graph.specs.Lists.{row}
use Rattle.tf_plan_order.proofs.near.spread.Given as goal

abbrev pub invariant-loop-other : goal.invariant-loop-other
invariant-loop-other l = record {
  within : l.from ≤ l.table.nodes;
  count : length l.lists ≡ length l.initial.lists;
  done : (s : ℕ) → s < l.from → row l.lists s ≡ row l.initial.lists s ++ cond (reaches l.table l.resource s) (l.place ∷ []) [];
  left : (s : ℕ) → l.from ≤ s → row l.lists s ≡ row l.initial.lists s;
}

abbrev pub decreases-loop-other : goal.decreases-loop-other
decreases-loop-other l = l.table.nodes - l.from
