use Rattle.std.proofs.Common.{Result, ◌≡◌, ◌∙◌, Err, length, sym, ap}
use Rattle.std.proofs.lemmas.Result.{err_from_is_err_and}
use Rattle.tf_plan_order.proofs.Listed.{made-step, made-many}
use Rattle.tf_plan_order.specs.Order.{pairs, pairs_into}
use Rattle.tf_plan_order.specs.OrderInput.{order_input_of}
use Rattle.tf_plan_order.specs.declared.order.OrderFault.TheVariants.{TooMany}
use Rattle.tf_plan_order.proofs.order.all_pairs.Goals as goal

same_fault : {T E : Type 0} (r : Result T E) (x y : E) → r ≡ Err x → r ≡ Err y → x ≡ y
same_fault r x y p q = cc

pub loop-second-preserved : goal.loop-second-preserved
loop-second-preserved c =
    let a = c.args in
    let l = c.loop-second in
    record {
      rest = made-step (pairs_into (order_input_of a.ties.now) a.actions.now) l.second (length a.actions.now) l.found.items c.add_pairs_into.new.found.items (pairs (order_input_of a.ties.now) a.actions.now)
          c.loop-second-test.true c.in_ok-add_pairs_into.ensures.pairs l.invariant.rest;
      few = c.in_ok-add_pairs_into.ensures.few;
    }

pub returns-in_err-add_pairs_into-clause-too_many : goal.returns-in_err-add_pairs_into-clause-too_many
returns-in_err-add_pairs_into-clause-too_many c h =
    let e = err_from_is_err_and c.from_residual.result c.from_residual.ensures.1 in
    let l = c.loop-second in
    let f = pairs_into (order_input_of c.args.ties.now) c.args.actions.now in
    made-many f 200000 l.second (length c.args.actions.now) l.found.items (pairs (order_input_of c.args.ties.now) c.args.actions.now) c.loop-second-test.true l.invariant.rest
    (c.in_err-add_pairs_into.ensures.too_many (ap Err (sym e.2 ∙ same_fault c.from_residual.result e.0 TooMany e.1 h)))
