-- one action more is passed, or requested, or can't be
use Rattle.std.proofs.Common.{◌≡◌, ◌∙◌, ◌<◌, ◌≤◌, arith, length, map, sym}
use Rattle.std.proofs.lemmas.List.{length-map}
use Rattle.tf_plan_data.specs.Plan.{plan_of}
use Rattle.tf_provider_log.specs.LogEntry.{log_entry_of}
use Rattle.tf_walk_requests.proofs.Stepping.{at_last, one_failed, one_requested, passed}
use Rattle.tf_walk_requests.specs.Stages.{stage_of}
use Rattle.tf_walk_requests.proofs.ready.RequestSource.ready_requests.Goals as goal
use Rattle.tf_walk_requests.proofs.ready.RequestSource.ready_requests.Goals.{then-is_ready+in_ok-request+in-Some+in_ok-push-in-Some, then-is_ready+in_ok-request+in-None, else-is_ready}

pub loop-action-preserved : goal.loop-action-preserved
loop-action-preserved g c =
    let ms = map (λ b. (goal.Provider-dyn g (b.vtable, b.value)).meaning b.value) c.args.self.now.providers.now in
    let plan = plan_of c.args.self.now.plan.now in
    let es = map log_entry_of c.args.self.now.entries.now in
    let stages = map stage_of c.loop-action.stages in
    let i = c.loop-action.action in
    let within : i < length stages = omega (arith, length-map c.loop-action.stages stage_of) in
    elim c.if-is_ready.branch [
      | then-is_ready+in_ok-request+in-Some+in_ok-push-in-Some w ↦ rw (w.stages-is, w.requests-is, w.memo-is, w.in_ok-push-in-Some.ensures.items, rw w.in-Some.is at w.in_ok-request.ensures.stages)
          (one_requested ms plan es (map stage_of c.args.stages.now) stages c.loop-action.requests.items c.loop-action.memo w.request.new.memo i w.in-Some.request c.loop-action.invariant within (sym c.is_ready.ensures ∙ w.if-is_ready.true) (rw w.in-Some.is at w.in_ok-request.ensures.asked) w.in_ok-request.ensures.memo)
      | then-is_ready+in_ok-request+in-None w ↦ rw (w.stages-is, w.requests-is, w.memo-is, rw w.in-None.is at w.in_ok-request.ensures.stages)
          (one_failed ms plan es (map stage_of c.args.stages.now) stages c.loop-action.requests.items c.loop-action.memo w.request.new.memo i c.loop-action.invariant within (sym c.is_ready.ensures ∙ w.if-is_ready.true) (rw w.in-None.is at w.in_ok-request.ensures.asked) w.in_ok-request.ensures.memo)
      | else-is_ready w ↦ rw (w.stages-is, w.requests-is, w.memo-is) (passed ms plan es (map stage_of c.args.stages.now) stages c.loop-action.requests.items c.loop-action.memo i c.loop-action.invariant (sym c.is_ready.ensures ∙ w.if-is_ready.false))
    ]

pub returns : goal.returns
returns g c =
    let ms = map (λ b. (goal.Provider-dyn g (b.vtable, b.value)).meaning b.value) c.args.self.now.providers.now in
    let stages = map stage_of c.loop-action.stages in
    let all : length stages ≤ c.loop-action.action = omega (arith, length-map c.loop-action.stages stage_of) in
    at_last ms (plan_of c.args.self.now.plan.now) (map log_entry_of c.args.self.now.entries.now) (map stage_of c.args.stages.now) stages c.loop-action.requests.items c.loop-action.memo c.loop-action.action all c.loop-action.invariant
