use Rattle.std.proofs.Common.{ℕ, map, option_map, refl, subst}
use Rattle.tf_plan_data.specs.Plan.{plan_of}
use Rattle.tf_plan_object.specs.Instance.{instance_fault_of}
use Rattle.tf_walk_action.specs.AskedBy.{asked_by}
use Rattle.tf_walk_action.specs.Excuse.{before_call, by_stop}
use Rattle.tf_walk_action.specs.Outcome.{comes_of, excused, faulted}
use Rattle.tf_walk_action.specs.ResultViews.{IsByFlag, action_result_of}
use Rattle.tf_walk_action.specs.Run.{IsRun}
use Rattle.tf_walk_single.proofs.EndedAction.{ends_run, ends_skipped}
use Rattle.tf_walk_single.proofs.Entered.{may_record}
use Rattle.tf_walk_single.proofs.steps.end_action.Goals as goal

pub returns-in-Some-clause-ended : goal.returns-in-Some-clause-ended
returns-in-Some-clause-ended g c = λ requests are.
    let ms = map (λ b. (goal.Provider-dyn g (b.vtable, b.value)).meaning b.value) c.args.providers.now in
    let ends = map (option_map action_result_of) c.args.results.now in
    rw c.skipped.ensures.ended (ends_skipped ms requests (plan_of c.args.plan.now) c.args.permit ends (rw c.action-action.ensures at c.in-Some.ensures.bad))

pub returns-in-Err-clause-ended : goal.returns-in-Err-clause-ended
returns-in-Err-clause-ended g c = λ requests are.
    let ms = map (λ b. (goal.Provider-dyn g (b.vtable, b.value)).meaning b.value) c.args.providers.now in
    let ends = map (option_map action_result_of) c.args.results.now in
    rw c.left.ensures.ended (ends_run ms requests (plan_of c.args.plan.now) c.args.permit ends (excused by_stop) (rw c.action-action.ensures at c.in_default.ensures.bad.0) tt)

pub returns-in-Err-ask-clause-ended : goal.returns-in-Err-ask-clause-ended
returns-in-Err-ask-clause-ended g c = λ requests are.
    let ms = map (λ b. (goal.Provider-dyn g (b.vtable, b.value)).meaning b.value) c.args.providers.now in
    let ends = map (option_map action_result_of) c.args.results.now in
    rw c.not_asked.ensures.ended (ends_run ms requests (plan_of c.args.plan.now) c.args.permit ends (excused before_call) (rw c.action-action.ensures at c.in_default.ensures.bad.0) tt)

pub returns-in-Ok-Err-clause-ended : goal.returns-in-Ok-Err-clause-ended
returns-in-Ok-Err-clause-ended g c = λ requests are.
    let ms = map (λ b. (goal.Provider-dyn g (b.vtable, b.value)).meaning b.value) c.args.providers.now in
    let told = faulted (instance_fault_of c.in-Ok-Err.faulted.fault) in
    let run : IsRun (comes_of ms (asked_by c.in-Ok-Err.field-0)) told = rw c.in-Ok-Err.field-0-is refl in
    rw (c.faulted.ensures.ended, ← c.action-action.ensures) (c.in-Ok-Err.ensures.asked requests told are run)

pub returns-in-Ok-Ok-clause-ended : goal.returns-in-Ok-Ok-clause-ended
returns-in-Ok-Ok-clause-ended g c = λ requests are.
    let ms = map (λ b. (goal.Provider-dyn g (b.vtable, b.value)).meaning b.value) c.args.providers.now in
    let told = action_result_of c.serve.result.0 in
    let run : IsRun (comes_of ms (asked_by c.in-Ok-Ok.field-0)) told = rw c.in-Ok-Ok.field-0-is c.serve.ensures.ended in
    rw (← c.action-action.ensures) (c.in-Ok-Ok.ensures.asked requests told are run)

pub serve-requires-clause-fits : goal.serve-requires-clause-fits
serve-requires-clause-fits g c =
    let good = rw c.action-action.ensures at c.in_default.ensures.bad.0 in
    may_record c.args.journal.now (map (option_map action_result_of) c.args.results.now) c.args.permit c.requires.so_far.entered c.requires.free (rw (← c.requires.graph) at good)

pub returns-in-Ok-Ok-clause-entered : goal.returns-in-Ok-Ok-clause-entered
returns-in-Ok-Ok-clause-entered g c = rw (rw (c.action-action.ensures, c.in-Ok-Ok.field-0-is) at c.in-Ok-Ok.ensures.op) c.serve.ensures.entered

pub returns-in-Err-clause-flag : goal.returns-in-Err-clause-flag
returns-in-Err-clause-flag g c = rw c.left.ensures.ended c.in-Err.ensures

pub returns-in-Ok-Ok-clause-flag : goal.returns-in-Ok-Ok-clause-flag
returns-in-Ok-Ok-clause-flag g c = subst (λ (f : ℕ). IsByFlag f c.serve.result.0) c.in-Ok.ensures c.serve.ensures.flag
