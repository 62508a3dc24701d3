use Rattle.std.proofs.Common.{◌≡◌, ◌∙◌, ℕ, sym, ap, subst}
use Rattle.tf_provider.specs.Call.{Call}
use Rattle.tf_provider_protocol.specs.Meaning.{asked, answered}
use Rattle.tf_provider_protocol.specs.declared.request.Request.{Request}
use Rattle.tf_walk_action.proofs.Judging.{call-runs}
use Rattle.tf_walk_action.specs.ActionResult.{ActionResultView}
use Rattle.tf_walk_action.specs.ResultViews.{IsByFlag, result_by, action_result_of}
use Rattle.tf_walk_action.specs.Outcome.{call_of_provider}
use Rattle.tf_walk_action.specs.Run.{IsRun}
use Rattle.tf_walk_single.proofs.calls.make_call.Goals as goal

pub returns-clause-flag : goal.returns-clause-flag
returns-clause-flag g c = subst (λ (f : ℕ). IsByFlag f c.ended_by.result.0) c.call_in_time-called.ensures.in_time c.ended_by.ensures.flag

pub returns-clause-ended : goal.returns-clause-ended
returns-clause-ended g c =
    let made = c.call_in_time-called.result.0 in
    let q = asked c.args.asking.request in
    let m = (goal.Provider-dyn g (c.args.provider.now.vtable, c.args.provider.now.value)).meaning c.args.provider.now.value in
    let ended : action_result_of c.ended_by.result.0 ≡ result_by q (answered made.reply) made.verdict =
    c.ended_by.ensures.ended
    ∙ (ap (λ (x : Call). result_by (asked x.request) (answered x.reply) x.verdict) c.in-Ok.ensures.recorded.1
    ∙ ap (λ (r : Request). result_by (asked r) (answered made.reply) made.verdict) c.call_in_time-called.ensures.request) in
    subst (λ (d : ActionResultView). IsRun (call_of_provider q m) d) (sym ended) (call-runs m q (answered made.reply) made.verdict c.requires.served c.call_in_time-called.ensures.answer c.call_in_time-called.ensures.verdict)
