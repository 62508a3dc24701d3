-- no call is forgotten by one turn more, and the last one returns no request
use Rattle.std.proofs.Common.{◌≡◌, [], length, map, rules}
use Rattle.std.proofs.lemmas.List.{length-map, nil_from_length}
use Rattle.tf_plan_data.specs.Action.{action_of}
use Rattle.tf_plan_data.specs.Plan.{plan_of}
use Rattle.tf_recovery.proofs.Turns.{first_turn, last_turn, next_turn}
use Rattle.tf_session.proofs.Kept.{always}
use Rattle.tf_walk_requests.specs.Stages.{stage_of}
use Rattle.tf_recovery.proofs.carrying.carried_out.Goals as goal

pub loop-init : goal.loop-init
loop-init g c =
    let ms = map (λ b. (goal.Provider-dyn g (b.vtable, b.value)).meaning b.value) c.args.providers.now in
    let plan = plan_of c.args.planned.now in
    let long : c.len.result ≡ length plan.actions = rw (← c.planned.view_is, length-map c.planned.inside.plan.actions.items action_of) (search rules) in
    first_turn ms plan c.args.session.now c.len.result (map stage_of c.in_ok-progress.progress.stages.items) c.in_ok-progress.ensures long

pub loop-preserved : goal.loop-preserved
loop-preserved g c =
    let ms = map (λ b. (goal.Provider-dyn g (b.vtable, b.value)).meaning b.value) c.args.providers.now in
    next_turn ms (plan_of c.args.planned.now) c.args.session.now c.loop.session c.serve.new.self (map stage_of c.loop.progress.stages.items) (map stage_of c.next_requests.new.self.stages.items) c.in_ok-requests.requests.items
    c.loop.invariant (rw (← c.entries.ensures) c.in_ok-requests.ensures) c.in_ok-serve.ensures.continues c.in_ok-serve.ensures.made

pub returns-then-not-awaits_reply-clause-outcome : goal.returns-then-not-awaits_reply-clause-outcome
returns-then-not-awaits_reply-clause-outcome g c = rw (← c.types.ensures, ← c.entries-then-not-awaits_reply.ensures) c.apply_over_log.ensures

pub returns-then-not-awaits_reply-clause-carried_out : goal.returns-then-not-awaits_reply-clause-carried_out
returns-then-not-awaits_reply-clause-carried_out g c =
    let ms = map (λ b. (goal.Provider-dyn g (b.vtable, b.value)).meaning b.value) c.args.providers.now in
    let none : c.in_ok-requests.requests.items ≡ [] = search (rules, nil_from_length) in
    always c.apply_over_log.result _
    (last_turn ms (plan_of c.args.planned.now) c.args.session.now c.loop.session (map stage_of c.loop.progress.stages.items) (map stage_of c.next_requests.new.self.stages.items) c.in_ok-requests.requests.items
    c.loop.invariant (rw (← c.entries.ensures) c.in_ok-requests.ensures) none)
