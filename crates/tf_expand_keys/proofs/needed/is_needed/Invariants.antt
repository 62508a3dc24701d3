use Rattle.std.proofs.Common.{◌≡◌, ◌≤◌, ◌<◌, ◌-◌, ℕ, true}
use Rattle.tf_graph.specs.NodeSet.{has}
use Rattle.tf_config_names.specs.Needs.{needs_in}
use Rattle.tf_expand_keys.proofs.needed.is_needed.Given as goal

abbrev pub invariant-loop-name : goal.invariant-loop-name
invariant-loop-name l = record {
  within : l.from ≤ l.dependence.table.nodes;
  none : (a : ℕ) → a < l.from → has l.marked a ≡ true → needs_in l.dependence a l.place ≡ true → ⊥;
}

abbrev pub decreases-loop-name : goal.decreases-loop-name
decreases-loop-name l = l.dependence.table.nodes - l.from
