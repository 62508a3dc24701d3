use Rattle.std.proofs.Common.{◌<◌, ◌∙◌, ◌++◌, Err, length, sym, ap, arith}
use Rattle.std.proofs.lemmas.Result.{err_from_is_err_and}
use Rattle.tf_plan_order.proofs.Keeping.{up_to_member}
use Rattle.tf_plan_order.proofs.Listed.{made-done, made-step, made-many}
use Rattle.tf_plan_order.specs.Order.{pair, pairs_into}
use Rattle.tf_plan_order.specs.OrderInput.{order_input_of}
use Rattle.tf_plan_order.proofs.order.add_before.Goals as goal

pub loop-first-preserved : goal.loop-first-preserved
loop-first-preserved c =
    let a = c.args in
    let l = c.loop-first in
    let t = order_input_of a.ties.now in
    let all = a.found.now.items ++ pairs_into t a.actions.now a.second in
    let next = c.in-Some.ensures.first in
    let first = c.in-Some.first in
    let inside : first < length a.actions.now = omega (arith, c.in-Some.ensures.below, c.requires.long) in
    let rest = up_to_member t a.actions.now a.second a.near.now c.requires.near l.from first l.found.items all next.0 (omega (arith, inside)) next.2 l.invariant.rest in
    record {
      within = omega (arith, inside);
      rest = made-step (pair t a.actions.now a.second) first (length a.actions.now) l.found.items c.add_if.new.found.items all inside (rw c.is_before-holds.ensures at c.in_ok-add_if.ensures.pairs) rest;
      few = c.in_ok-add_if.ensures.few;
    }

pub returns-in_err-add_if-clause-too_many : goal.returns-in_err-add_if-clause-too_many
returns-in_err-add_if-clause-too_many c h =
    let e = err_from_is_err_and c.from_residual.result c.from_residual.ensures.1 in
    let a = c.args in
    let l = c.loop-first in
    let t = order_input_of a.ties.now in
    let next = c.in-Some.ensures.first in
    let inside : c.in-Some.first < length a.actions.now = omega (arith, c.in-Some.ensures.below, c.requires.long) in
    made-many (pair t a.actions.now a.second) 200000 c.in-Some.first (length a.actions.now) l.found.items (a.found.now.items ++ pairs_into t a.actions.now a.second) inside
    (up_to_member t a.actions.now a.second a.near.now c.requires.near l.from c.in-Some.first l.found.items _ next.0 (omega (arith, inside)) next.2 l.invariant.rest)
    (rw c.is_before-holds.ensures at c.in_err-add_if.ensures.too_many (sym (e.1 ∙ ap Err e.2) ∙ h))

pub returns-clause-pairs : goal.returns-clause-pairs
returns-clause-pairs c =
    let a = c.args in
    let l = c.loop-first in
    let t = order_input_of a.ties.now in
    let end = length a.actions.now in
    made-done (pair t a.actions.now a.second) end end l.found.items _ (omega arith)
    (up_to_member t a.actions.now a.second a.near.now c.requires.near l.from end l.found.items _ l.invariant.within (omega arith) (λ k low high. c.in_default.ensures.first k low) l.invariant.rest)
