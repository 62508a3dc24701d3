use Rattle.std.proofs.Common.{◌≡◌, ◌≤◌, ◌<◌, ◌-◌, ℕ, true, length}
use Rattle.std.specs.Prelude.{Contains}
use Rattle.tf_graph.specs.Closure.{reaches}
use Rattle.tf_graph.specs.Lists.{row}
use Rattle.tf_graph.specs.NodeSet.{has}
use Rattle.tf_plan_order.specs.Near.{HasGrown}
use Rattle.tf_plan_order.proofs.near.add_reached.Given as goal

abbrev pub invariant-loop-other : goal.invariant-loop-other
invariant-loop-other l = record {
  within : l.from ≤ l.table.nodes;
  inside : (r : ℕ) → r < l.from → reaches l.table l.resource r ≡ true → r < length l.own;
  grown : HasGrown l.initial.set l.set;
  added : (r k : ℕ) → r < l.from → reaches l.table l.resource r ≡ true → Contains (row l.own r) k → has l.set k ≡ true;
}

abbrev pub decreases-loop-other : goal.decreases-loop-other
decreases-loop-other l = l.table.nodes - l.from
