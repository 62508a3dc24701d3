-- What came of an action whose predecessors are seen is true.
use Rattle.std.proofs.Common.{◌≡◌, ◌<◌, ◌∙◌, ℕ, List, length, Some, refl, sym, ap, subst}
use Rattle.std.specs.Prelude.{slice_get}
use Rattle.tf_plan_data.specs.Action.{ActionView}
use Rattle.tf_config_address.specs.ObjectId.{InstanceKeyView}
use Rattle.tf_walk_workers.proofs.CallsSeen.{calls_true, excuses_true}
use Rattle.tf_walk_workers.specs.Ideal.{IsTrueTo}
use Rattle.tf_walk_workers.specs.Laws.{OfCall}
use Rattle.tf_walk_workers.specs.SeenResult.{AreShown}
use Rattle.tf_config_data.specs.Names.{NameView}
use Rattle.tf_graph.specs.Digraph.{predecessors_of}
use Rattle.tf_walk_action.proofs.Calling.{run_at, seen_objects}
use Rattle.tf_walk_action.specs.Excuse.{before_call, during_call, by_stop}
use Rattle.tf_walk_action.specs.Outcome.{ActionResultView, skipped, excused, faulted, called, Requests, AreRequests, call_with, objects_by, objects_seen}
use Rattle.tf_walk_action.specs.Run.{IsRun}
use Rattle.tf_plan_data.specs.Plan.{PlanView, plan_names}
use Rattle.tf_provider_protocol.specs.Meaning.{Meaning}
use Rattle.tf_state_data.specs.State.{StateView}
use Rattle.tf_value_data.specs.Tree.{Tree}

-- what may come of the action's call is true of it
runs_true : (ms : List Meaning) (plan : PlanView) (n : ℕ) (seen : List (ℕ × ActionResultView)) (d : ActionResultView) → n < length plan.actions
    → AreShown ms plan (predecessors_of plan.order n) seen → OfCall ms plan n seen (λ call. IsRun call d) → IsTrueTo ms plan n d
runs_true ms plan n seen skipped below shown run = calls_true ms plan n seen skipped below shown run
runs_true ms plan n seen (excused before_call) below shown run = λ requests ideal is. tt
runs_true ms plan n seen (excused by_stop) below shown run = λ requests ideal is. tt
runs_true ms plan n seen (excused during_call) below shown run = excuses_true ms plan n seen below shown run
runs_true ms plan n seen (faulted why) below shown run = calls_true ms plan n seen (faulted why) below shown run
runs_true ms plan n seen (called asked answer v) below shown run = calls_true ms plan n seen (called asked answer v) below shown run

-- What may come of what was asked for an action, by what is seen of those before it, is true of it. The plan of the walk is
-- the plan, and what is seen is seen for the plan's own names, prior state and actions.
pub asked_true : (named ms : List Meaning) (walk plan : PlanView) (n : ℕ) (names : List NameView) (prior : StateView) (actions : List ActionView) (seen : List (ℕ × ActionResultView)) (a : ActionView) (call d : ActionResultView)
    → named ≡ ms → walk ≡ plan → names ≡ plan_names plan → prior ≡ plan.prior → actions ≡ plan.actions
    → n < length plan.actions → slice_get plan.actions n ≡ Some a → AreShown named walk (predecessors_of plan.order n) seen
    → ((requests : Requests) → AreRequests plan requests → call ≡ call_with ms requests plan (objects_seen names prior actions seen) a)
    → IsRun call d → IsTrueTo named walk n d
asked_true named ms walk plan n names prior actions seen a call d meanings own same before alike below here shown asked run =
    let objects : objects_seen names prior actions seen ≡ objects_by plan seen =
    ap (λ (p : StateView). objects_seen names p actions seen) before ∙ seen_objects plan names actions seen seen same alike refl in
    let shown_here : AreShown ms plan (predecessors_of plan.order n) seen =
    subst (λ (p : PlanView). AreShown ms p (predecessors_of plan.order n) seen) own (subst (λ (x : List Meaning). AreShown x walk (predecessors_of plan.order n) seen) meanings shown) in
    let fits : IsTrueTo ms plan n d =
    runs_true ms plan n seen d below shown_here
    (λ requests are. run_at ms requests plan n seen a call d here (asked requests are ∙ ap (λ (o : ℕ → InstanceKeyView → Tree). call_with ms requests plan o a) objects) run) in
    subst (λ (x : List Meaning). IsTrueTo x walk n d) (sym meanings) (subst (λ (p : PlanView). IsTrueTo ms p n d) (sym own) fits)
