use Rattle.std.proofs.Common.{◌≡◌, ◌≤◌, ◌-◌, ◌++◌, length}
use Rattle.tf_plan_order.proofs.Listed.{made}
use Rattle.tf_plan_order.specs.Order.{pair, pairs_into}
use Rattle.tf_plan_order.specs.OrderInput.{order_input_of}
use Rattle.tf_plan_order.proofs.order.add_before.Given as goal

abbrev pub invariant-loop-first : goal.invariant-loop-first
invariant-loop-first l = record {
  within : l.from ≤ length l.actions;
  rest : l.found.items ++ made (pair (order_input_of l.ties) l.actions l.second) l.from (length l.actions) ≡ l.fn.found.items ++ pairs_into (order_input_of l.ties) l.actions l.second;
  few : length l.found.items ≤ 200000;
}

abbrev pub decreases-loop-first : goal.decreases-loop-first
decreases-loop-first l = length l.actions - l.from
