use Rattle.std.proofs.Common.{◌≡◌, ◌∙◌, ℕ, sym, ap, subst}
use Rattle.tf_provider.specs.Call.{Call}
use Rattle.tf_provider_protocol.specs.Meaning.{asked, answered}
use Rattle.tf_provider_protocol.specs.declared.request.Request.{Request}
use Rattle.tf_walk_action.proofs.Judging.{call-runs}
use Rattle.tf_walk_action.specs.ResultViews.{IsByFlag, result_by, action_result_of, ended_action}
use Rattle.tf_walk_action.specs.Outcome.{ActionResultView, call_of_provider}
use Rattle.tf_walk_action.specs.Run.{IsRun}
use Rattle.tf_walk_action.specs.declared.action_result.ActionResult.{ActionResult}
use Rattle.tf_walk_workers.proofs.Recording.{tells_recorded}
use Rattle.tf_walk_workers.proofs.calls.make_call.Goals as goal

pub returns-clause-flag : goal.returns-clause-flag
returns-clause-flag g c =
    subst (λ (e : ActionResult). IsByFlag c.args.going e) (sym c.with_part.ensures.ended)
    (subst (λ (f : ℕ). IsByFlag f c.ended_by.result.0) c.call_in_time-called.ensures.in_time c.ended_by.ensures.flag)

pub returns-clause-ended : goal.returns-clause-ended
returns-clause-ended g c =
    let made = c.call_in_time-called.result.0 in
    let m = (goal.Provider-dyn g (c.args.provider.now.vtable, c.args.provider.now.value)).meaning c.args.provider.now.value in
    let q = asked c.args.asking.request in
    let run = call-runs m q (answered made.reply) made.verdict c.requires.served c.call_in_time-called.ensures.answer c.call_in_time-called.ensures.verdict in
    let ended : action_result_of c.with_part.result.ended ≡ result_by q (answered made.reply) made.verdict =
    ap action_result_of c.with_part.ensures.ended
    ∙ c.ended_by.ensures.ended
    ∙ ap (λ (x : Call). result_by (asked x.request) (answered x.reply) x.verdict) c.record-recorded.ensures.recorded
    ∙ ap (λ (r : Request). result_by (asked r) (answered made.reply) made.verdict) c.call_in_time-called.ensures.request in
    subst (λ (d : ActionResultView). IsRun (call_of_provider q m) d) (sym ended) run

pub returns-clause-part : goal.returns-clause-part
returns-clause-part g c =
    tells_recorded g.N.WalkBrand.table c.call_in_time-called.result.0 c.record-recorded.result.recorded c.with_part.result.ended c.record-recorded.result.part c.with_part.result.part c.record-recorded.ensures.recorded
    (ap ended_action c.with_part.ensures.ended ∙ c.ended_by.ensures.action) (ap action_result_of c.with_part.ensures.ended ∙ c.ended_by.ensures.ended) c.record-recorded.ensures.part c.with_part.ensures.part
