use Rattle.std.proofs.Common.{◌∙◌, ◌<◌, ◌+◌, List, length, map, get_or, ap, sym, take, subst}
use Rattle.tf_plan_data.specs.Action.{action_of}
use Rattle.tf_plan_data.specs.declared.action.Action.{Action}
use Rattle.tf_plan_data.specs.Plan.{plan_of}
use Rattle.tf_walk_buffers.specs.Head.{AreHeads}
use Rattle.tf_walk_buffers.specs.Needed.{IsListedFor}
use Rattle.tf_walk_buffers.specs.BuffersHead.{buffers_head}
use Rattle.tf_walk_buffers.proofs.Heads.{heads-next}
use Rattle.tf_walk_buffers.proofs.Lists.{all-at}
use Rattle.tf_walk_buffers.proofs.reserving_actions.reserve_actions.Goals as goal

pub reserve_action-requires-clause-listed : goal.reserve_action-requires-clause-listed
reserve_action-requires-clause-listed c =
    let items = c.deref-action-items.ensures.value in
    let action = c.action-item.result in
    let lists = c.in_ok-lists.lists.items in
    let plan = plan_of c.args.plan.now in
    let below : c.loop-action.action-index < length c.args.plan.now.actions.items = subst (λ (xs : List Action). c.loop-action.action-index < length xs) items c.loop-action-test.true in
    let is = c.action-item.is ∙ ap (λ xs. get_or xs c.loop-action.action-index action) items in
    let listed : IsListedFor plan lists (action_of action) = all-at (IsListedFor plan lists) action_of c.args.plan.now.actions.items c.loop-action.action-index action below is c.in_ok-lists.ensures in
    rw c.as_slice.ensures.value listed

pub loop-action-preserved : goal.loop-action-preserved
loop-action-preserved c =
    let old = c.loop-action in
    let plan = plan_of c.args.plan.now in
    let items = c.deref-action-items.ensures.value in
    let action = c.action-item.result in
    let below : old.action-index < length c.args.plan.now.actions.items = subst (λ (xs : List Action). old.action-index < length xs) items c.loop-action-test.true in
    let is = c.action-item.is ∙ ap (λ xs. get_or xs old.action-index action) items in
    subst (λ xs. AreHeads plan (map action_of (take (old.action-index + 1) c.args.plan.now.actions.items)) (map buffers_head xs)) (sym c.in_ok-push.ensures.items)
    (heads-next plan buffers_head action_of old.rooms.items c.args.plan.now.actions.items old.action-index c.in_ok-reserve_action.field-0 action below is old.invariant c.in_ok-reserve_action.ensures)
