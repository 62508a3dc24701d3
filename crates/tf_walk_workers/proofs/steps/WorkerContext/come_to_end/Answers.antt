use Rattle.std.proofs.Common.{◌∙◌, ℕ, Result, map, refl, sym, subst}
use Rattle.tf_walk_action.specs.AskedBy.{asked_by}
use Rattle.tf_walk_workers.specs.Ideal.{IsTrueTo}
use Rattle.tf_plan_object.specs.Instance.{instance_fault_of}
use Rattle.tf_walk_action.specs.ResultViews.{IsByFlag, action_result_of}
use Rattle.tf_walk_action.specs.Outcome.{faulted, comes_of}
use Rattle.tf_walk_action.specs.Run.{IsRun}
use Rattle.tf_walk_action.specs.declared.prepared_call.PreparedCall.{PreparedCall}
use Rattle.tf_walk_action.specs.declared.action_result.ActionResult.{ActionResult}
use Rattle.tf_walk_action.specs.declared.action_result.Faulted.{Faulted}
use Rattle.tf_walk_workers.proofs.steps.WorkerContext.come_to_end.Goals as goal

pub returns-in-Ok-Err-clause-ended : goal.returns-in-Ok-Err-clause-ended
returns-in-Ok-Err-clause-ended g c =
    let ms = map (λ b. (goal.Provider-dyn g (b.vtable, b.value)).meaning b.value) c.args.providers.now in
    let reported = faulted (instance_fault_of c.in-Ok-Err.faulted.fault) in
    let run : IsRun (comes_of ms (asked_by c.in-Ok-Err.field-0)) reported = subst (λ (made : Result PreparedCall Faulted). IsRun (comes_of ms (asked_by made)) reported) (sym c.in-Ok-Err.field-0-is) refl in
    let is : IsTrueTo g.N.WalkBrand.meanings g.N.WalkBrand.plan c.args.permit reported = subst (λ (n : ℕ). IsTrueTo g.N.WalkBrand.meanings g.N.WalkBrand.plan n reported) c.action-action.ensures (c.in-Ok-Err.ensures.asked reported run) in
    subst (λ (e : ActionResult). IsTrueTo g.N.WalkBrand.meanings g.N.WalkBrand.plan c.args.permit (action_result_of e)) (sym (c.with_part-in-Ok-Err.ensures.ended ∙ c.faulted.ensures.ended)) is

pub returns-in-Ok-Ok-clause-ended : goal.returns-in-Ok-Ok-clause-ended
returns-in-Ok-Ok-clause-ended g c =
    let ms = map (λ b. (goal.Provider-dyn g (b.vtable, b.value)).meaning b.value) c.args.providers.now in
    let reported = action_result_of c.serve.result.ended in
    let run : IsRun (comes_of ms (asked_by c.in-Ok-Ok.field-0)) reported = subst (λ (made : Result PreparedCall Faulted). IsRun (comes_of ms (asked_by made)) reported) (sym c.in-Ok-Ok.field-0-is) c.serve.ensures.ended in
    subst (λ (n : ℕ). IsTrueTo g.N.WalkBrand.meanings g.N.WalkBrand.plan n reported) c.action-action.ensures (c.in-Ok-Ok.ensures.asked reported run)

pub returns-in-Ok-Ok-clause-flag : goal.returns-in-Ok-Ok-clause-flag
returns-in-Ok-Ok-clause-flag g c = subst (λ (f : ℕ). IsByFlag f c.serve.result.ended) (c.in-Ok.ensures ∙ c.requires.flag) c.serve.ensures.flag
