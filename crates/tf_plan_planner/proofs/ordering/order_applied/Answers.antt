use Rattle.std.proofs.Common.{◌∙◌, ap, map, subst}
use Rattle.std.proofs.lemmas.Result.{err_from_is_err_and}
use Rattle.tf_plan_planner.proofs.Undestroyed.{ties-by_needs}
use Rattle.tf_plan_planner.specs.Ordered.{action_pairs}
use Rattle.tf_plan_planner.specs.Refused.{AreManyPairsBy, Tells}
use Rattle.tf_plan_data.specs.Action.{action_of}
use Rattle.tf_plan_planner.proofs.ordering.order_applied.Goals as goal

pub returns-in_err-order-clause-refused : goal.returns-in_err-order-clause-refused
returns-in_err-order-clause-refused c =
    let actions = map action_of c.args.actions.now in
    let same = ties-by_needs c.args.dependence.now c.in_ok-nothing.nothing 0 c.args.marked.items c.in_ok-nothing.ensures c.requires.unmarked in
    let p = err_from_is_err_and c.from_residual-in_err-order.result c.from_residual-in_err-order.ensures.1 in
    rw (p.1, p.2) (subst (λ t. Tells (AreManyPairsBy t actions) c.in_err-order.field-0.0) same (rw c.as_slice.ensures.value at c.in_err-order.ensures.refused))

pub returns-clause-edges : goal.returns-clause-edges
returns-clause-edges c =
    let actions = map action_of c.args.actions.now in
    let same = ties-by_needs c.args.dependence.now c.in_ok-nothing.nothing 0 c.args.marked.items c.in_ok-nothing.ensures c.requires.unmarked in
    rw c.as_slice.ensures.value at c.in_ok-order.ensures.edges ∙ ap (λ t. action_pairs t actions) same
