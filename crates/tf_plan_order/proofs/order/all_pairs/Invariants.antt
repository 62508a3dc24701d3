use Rattle.std.proofs.Common.{◌≡◌, ◌≤◌, ◌++◌, length}
use Rattle.tf_plan_order.proofs.Listed.{made}
use Rattle.tf_plan_order.specs.Order.{pairs, pairs_into}
use Rattle.tf_plan_order.specs.OrderInput.{order_input_of}
use Rattle.tf_plan_order.proofs.order.all_pairs.Given as goal

abbrev pub invariant-loop-second : goal.invariant-loop-second
invariant-loop-second l = record {
  rest : l.found.items ++ made (pairs_into (order_input_of l.ties) l.actions) l.second (length l.actions) ≡ pairs (order_input_of l.ties) l.actions;
  few : length l.found.items ≤ 200000;
}
