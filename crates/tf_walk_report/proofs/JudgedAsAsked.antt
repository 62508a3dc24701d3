-- What was judged is what comes of the call of the provider that has the type, to a request of the action's kind.
use Rattle.std.proofs.Common.{◌≡◌, ◌<◌, ◌∙◌, ℕ, zero, suc, Bool, true, false, List, [], ◌∷◌, length, map, Option, Some, None, Result, Ok, Err, IfOk, option_map, if◌then◌else◌, refl, sym, ap, subst, arith}
use Rattle.std.specs.Prelude.{slice_get}
use Rattle.std.specs.Option.{option_map_or}
use Rattle.tf_plan_data.specs.Action.{ActionView, StepView, create, update, replacement, replaced, destroyed, deposed_destroyed}
use Rattle.tf_walk_report.specs.ActionReport.{AreJudged, IsJudged}
use Rattle.tf_config_address.specs.ObjectId.{InstanceKeyView}
use Rattle.tf_plan_object.specs.Instance.{InstanceFaultView}
use Rattle.tf_config_data.specs.Names.{meant_at}
use Rattle.tf_graph.specs.Digraph.{predecessors_of}
use Rattle.tf_graph.specs.Solutions.{seen_by}
use Rattle.tf_plan_object.specs.Kept.{kept_object}
use Rattle.tf_plan_data.specs.Plan.{PlanView, plan_names}
use Rattle.tf_provider_protocol.specs.Meaning.{Asked, Answer, Meaning, first_with, schema_in}
use Rattle.tf_provider_protocol.specs.Schema.{SchemaView}
use Rattle.tf_provider_protocol.specs.Verdict.{verdict_on}
use Rattle.tf_provider_protocol.specs.declared.request.Op.{Op}
use Rattle.tf_provider_protocol.specs.declared.verdict.Verdict.{Verdict}
use Rattle.tf_value_data.specs.Tree.{Tree}
use Rattle.tf_walk_action.specs.Asked.{asked_by_step, asked_for, create_of, ignored_by, unless_faulty, update_of}
use Rattle.tf_walk_action.specs.Journal.{op_at}
use Rattle.tf_walk_action.specs.Excuse.{Moment, excuse_of}
use Rattle.tf_walk_action.specs.Outcome.{ActionResultView, skipped, excused, faulted, called, Requests, AreOutcomes, all_good, call_at, call_of, call_of_provider, call_with, comes_of, done_at, objects_by, op_of, or_excused}
use Rattle.tf_walk_action.specs.declared.excuse.Excuse.{Excuse}

-- a call that was judged so, to a request of this kind
abbrev pub IsCall : List Meaning → Op → Asked → Option Answer → Verdict → Type 0
IsCall ms op q a v = (called q a v ≡ call_of ms q) × (q.op ≡ op)

asked_by_schema : (m : Meaning) (r q : Asked) (a : Option Answer) (v : Verdict) (o : Option SchemaView)
    → option_map_or (λ s. called r (Some (m.answer r)) (verdict_on r (Some (m.answer r)) s)) o skipped ≡ called q a v → r ≡ q
asked_by_schema m r q a v None e = absurd (cc)
asked_by_schema m r q a v (Some s) e = cc

asked_by : (o : Option Meaning) (r q : Asked) (a : Option Answer) (v : Verdict) → option_map_or (call_of_provider r) o skipped ≡ called q a v → r ≡ q
asked_by None r q a v e = absurd (cc)
asked_by (Some m) r q a v e = asked_by_schema m r q a v (m.schema_of r.type_name) e

judged_of : (ms : List Meaning) (op : Op) (r q : Asked) (a : Option Answer) (v : Verdict) → r.op ≡ op → called q a v ≡ call_of ms r → IsCall ms op q a v
judged_of ms op r q a v kind e =
    let same : r ≡ q = asked_by (first_with r.type_name ms) r q a v (sym e) in (e ∙ ap (call_of ms) same, sym (ap (λ (x : Asked). x.op) same) ∙ kind)

-- ---- the kind of a request is that of the step

kind_where : (op : Op) (ask : Tree → Asked) (made : Result Tree InstanceFaultView) → ((t : Tree) → (ask t).op ≡ op) → IfOk (unless_faulty ask made) (λ r. r.op ≡ op)
kind_where op ask (Ok t) kind = kind t
kind_where op ask (Err why) kind = search

kind_by_step : (ignored : List (List ℕ)) (schema : SchemaView) (a : ActionView) (made : Result Tree InstanceFaultView) (step : StepView) → IfOk (asked_by_step ignored schema a made step) (λ r. r.op ≡ op_of step)
kind_by_step ignored schema a made (create asked) = kind_where (op_of (create asked)) (create_of a) made (λ t. refl)
kind_by_step ignored schema a made (replacement asked names) = kind_where (op_of (replacement asked names)) (create_of a) made (λ t. refl)
kind_by_step ignored schema a made (update prior asked names) =
    kind_where (op_of (update prior asked names)) (λ t. update_of a prior (kept_object schema ignored prior t)) made (λ t. refl)
kind_by_step ignored schema a made (replaced prior) = refl
kind_by_step ignored schema a made (destroyed prior) = refl
kind_by_step ignored schema a made (deposed_destroyed key prior) = refl

judged_request : (ms : List Meaning) (op : Op) (r : Result Asked InstanceFaultView) (q : Asked) (a : Option Answer) (v : Verdict) → IfOk r (λ x. x.op ≡ op) → called q a v ≡ comes_of ms r → IsCall ms op q a v
judged_request ms op (Ok x) q a v kind e = judged_of ms op x q a v kind e
judged_request ms op (Err why) q a v kind e = absurd (cc)

judged_with : (ms : List Meaning) (plan : PlanView) (b : ActionView) (requests : SchemaView → Result Tree InstanceFaultView) (o : Option SchemaView) (q : Asked) (a : Option Answer) (v : Verdict)
    → called q a v ≡ option_map_or (λ s. comes_of ms (asked_for (plan_names plan) s b (requests s))) o skipped → IsCall ms (op_of b.step) q a v
judged_with ms plan b requests None q a v e = absurd (cc)
judged_with ms plan b requests (Some s) q a v e =
    judged_request ms (op_of b.step) (asked_for (plan_names plan) s b (requests s)) q a v (kind_by_step (ignored_by (meant_at (plan_names plan) b.resource)) s b (requests s) b.step) e

judged_at : (ms : List Meaning) (requests : Requests) (plan : PlanView) (objects : ℕ → InstanceKeyView → Tree) (op : Op) (o : Option ActionView) (q : Asked) (a : Option Answer) (v : Verdict)
    → option_map (λ b. op_of b.step) o ≡ Some op → called q a v ≡ option_map_or (call_with ms requests plan objects) o skipped → IsCall ms op q a v
judged_at ms requests plan objects op None q a v kind e = absurd (cc)
judged_at ms requests plan objects op (Some b) q a v kind e =
    let same : op_of b.step ≡ op = (cc) in
    let made = judged_with ms plan b (requests objects b) (schema_in b.addr.type_name ms) q a v e in (made.0, made.1 ∙ same)

-- what comes of an action was judged by that provider's schema, as what it was asked to do
pub call-judged : (ms : List Meaning) (requests : Requests) (plan : PlanView) (n : ℕ) (seen : List (ℕ × ActionResultView)) (op : Op) (d : ActionResultView) → op_at plan.actions n ≡ Some op → d ≡ call_at ms requests plan n seen → IsJudged ms op d
call-judged ms requests plan n seen op skipped kind e = tt
call-judged ms requests plan n seen op (excused m) kind e = tt
call-judged ms requests plan n seen op (faulted why) kind e = tt
call-judged ms requests plan n seen op (called q a v) kind e = judged_at ms requests plan (objects_by plan seen) op (slice_get plan.actions n) q a v kind e

-- ---- all actions of a plan

-- what holds of each action by its place holds of all
pub all-judged : (ms : List Meaning) (ops : List Op) (done : List ActionResultView) → ((n : ℕ) (op : Op) → slice_get ops n ≡ Some op → IsJudged ms op (done_at done n)) → AreJudged ms ops done
all-judged ms [] done f = tt
all-judged ms (op ∷ ops) [] f = tt
all-judged ms (op ∷ ops) (d ∷ done) f = (f 0 op refl, all-judged ms ops done (λ n x e. f (suc n) x e))

-- what actions have their providers do, by their places
pub ops-read : (actions : List ActionView) (n : ℕ) → slice_get (map (λ a. op_of a.step) actions) n ≡ op_at actions n
ops-read [] n = refl
ops-read (a ∷ actions) zero = refl
ops-read (a ∷ actions) (suc n) = ops-read actions n

op_below : (actions : List ActionView) (n : ℕ) (op : Op) → op_at actions n ≡ Some op → n < length actions
op_below [] n op e = absurd (cc)
op_below (a ∷ actions) zero op e = omega arith
op_below (a ∷ actions) (suc n) op e = let below : n < length actions = op_below actions n op e in omega arith

by_rule : (ms : List Meaning) (op : Op) (b : Bool) (o : Option Moment) (call : ActionResultView) → IsJudged ms op call → IsJudged ms op (if b then or_excused o call else skipped)
by_rule ms op true None call h = h
by_rule ms op true (Some m) call h = tt
by_rule ms op false o call h = tt

-- outcomes were judged by the schemas of the providers that have the types, as what was asked
pub outcomes-judged : (ms : List Meaning) (requests : Requests) (plan : PlanView) (excuses : List Excuse) (done : List ActionResultView) → AreOutcomes ms requests plan excuses done → AreJudged ms (map (λ a. op_of a.step) plan.actions) done
outcomes-judged ms requests plan excuses done are =
    all-judged ms (map (λ a. op_of a.step) plan.actions) done (λ n op e. one n op (sym (ops-read plan.actions n) ∙ e))
  where
    one : (n : ℕ) (op : Op) → op_at plan.actions n ≡ Some op → IsJudged ms op (done_at done n)
    one n op kind =
        let seen = seen_by (done_at done) (predecessors_of plan.order n) in
        let call = call_at ms requests plan n seen in
        subst (IsJudged ms op) (sym (are.solves n (op_below plan.actions n op kind)))
        (by_rule ms op (all_good seen) (excuse_of excuses n) call (call-judged ms requests plan n seen op call kind refl))
