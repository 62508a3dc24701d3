use Rattle.std.proofs.Common.{◌∙◌}
use Rattle.tf_plan_order.proofs.Listed.{pairs-within, pairs-order}
use Rattle.tf_plan_order.specs.OrderInput.{order_input_of}
use Rattle.tf_plan_order.proofs.order.Order.new.Goals as goal

pub of-requires-clause-within : goal.of-requires-clause-within
of-requires-clause-within c =
    rw c.in_ok-pairs.ensures.pairs (pairs-within (order_input_of c.args.ties.now) c.args.actions.now)

pub invariant_of-result : goal.invariant_of-result
invariant_of-result c =
    pairs-order (order_input_of c.args.ties.now) c.args.actions.now c.requires.sound c.in-Ok.graph c.in-Ok.ensures.0
    (c.in-Ok.ensures.1 ∙ c.in_ok-pairs.ensures.pairs)
