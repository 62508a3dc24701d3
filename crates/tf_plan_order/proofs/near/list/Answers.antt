use Rattle.tf_plan_order.proofs.Keeping.{row-kept, row-led, row-added}
use Rattle.tf_plan_order.proofs.near.list.Goals as goal

pub returns-in_ok-push-clause-kept : goal.returns-in_ok-push-clause-kept
returns-in_ok-push-clause-kept c =
    let a = c.args in
    λ r k h. row-kept a.lists.now a.resource a.place c.index-lists-resource.result c.push.new.self c.if-resource-lists.true c.index-lists-resource.is c.in_ok-push.ensures.items r k h

pub returns-in_ok-push-clause-led : goal.returns-in_ok-push-clause-led
returns-in_ok-push-clause-led c =
    let a = c.args in
    λ r k h. row-led a.lists.now a.resource a.place c.index-lists-resource.result c.push.new.self c.if-resource-lists.true c.index-lists-resource.is c.in_ok-push.ensures.items r k h

pub returns-in_ok-push-clause-added : goal.returns-in_ok-push-clause-added
returns-in_ok-push-clause-added c =
    let a = c.args in
    λ h. row-added a.lists.now a.resource a.place c.index-lists-resource.result c.push.new.self c.if-resource-lists.true c.index-lists-resource.is c.in_ok-push.ensures.items
