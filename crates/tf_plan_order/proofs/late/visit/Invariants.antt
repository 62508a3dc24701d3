use Rattle.std.proofs.Common.{◌≡◌, ◌≤◌, ◌+◌, ℕ, true, take, vec_len}
use Rattle.std.specs.Prelude.{Contains}
use Rattle.tf_graph.specs.NodeSet.{has}
use Rattle.tf_graph.specs.Path.{HasEdge}
use Rattle.tf_plan_order.specs.Spread.{IsFurther, unfound}
use Rattle.tf_plan_order.proofs.late.visit.Given as goal

abbrev pub invariant-loop-needed : goal.invariant-loop-needed
invariant-loop-needed l = record {
  further : IsFurther l.initial.search.late.items l.search.late.items l.initial.search.pending.items l.search.pending.items (λ n. HasEdge l.graph n l.resource);
  found : (n : ℕ) → Contains (take l.needed-index l.needed-items) n → has l.search.late.items n ≡ true;
  smaller : unfound l.search.late.items + vec_len l.search.pending ≤ unfound l.initial.search.late.items + vec_len l.initial.search.pending;
}
