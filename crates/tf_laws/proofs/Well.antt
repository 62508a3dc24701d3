-- What came of an action that is good.
use Rattle.std.proofs.Common.{◌≡◌, ◌∙◌, ◌<◌, ℕ, Bool, true, false, cond, if◌then◌else◌, List, Option, Some, None, Result, Ok, Err, length, refl, sym, ap, subst}
use Rattle.std.specs.Option.{option_map_or}
use Rattle.std.specs.Prelude.{option_and_then, slice_get}
use Rattle.tf_plan_data.specs.Action.{ActionView, StepView, create, update, replacement, replaced, destroyed, deposed_destroyed}
use Rattle.tf_walk_report.specs.Change.{applied_of_done, left_of_done, saved_by}
use Rattle.tf_config_address.specs.ObjectId.{InstanceKeyView}
use Rattle.tf_plan_object.specs.Instance.{InstanceFaultView}
use Rattle.tf_config_data.specs.Names.{meant_at}
use Rattle.tf_plan_object.specs.Kept.{kept_object}
use Rattle.tf_graph.specs.Digraph.{predecessors_of}
use Rattle.tf_graph.specs.Solutions.{seen_by}
use Rattle.tf_walk_action.specs.Asked.{Requests, asked_by_step, asked_for, create_of, destroy_of, ignored_by, op_of, update_of}
use Rattle.tf_walk_action.specs.Excuse.{Moment, excuse_of}
use Rattle.tf_walk_action.specs.Objects.{object_of}
use Rattle.tf_walk_action.specs.Outcome.{AreOutcomes, ActionResultView, all_good, call_at, call_of, call_of_provider, call_with, called, comes_of, done_at, excused, faulted, is_good, objects_by, or_excused, skipped}
use Rattle.tf_walk_action.specs.declared.excuse.Excuse.{Excuse}
use Rattle.tf_plan_data.specs.Fits.{is_apply}
use Rattle.tf_plan_data.specs.Plan.{PlanView, plan_names}
use Rattle.tf_provider_protocol.specs.Meaning.{Answer, Asked, Meaning, failed, first_with, gone, object, schema_in}
use Rattle.tf_provider_protocol.specs.Schema.{SchemaView}
use Rattle.tf_provider_protocol.specs.Verdict.{is_destroy, is_good_verdict, verdict_on, verdict_on_object}
use Rattle.tf_provider_protocol.specs.declared.request.Op.{Op}
use Rattle.tf_provider_protocol.specs.declared.request.Op.TheVariants.{Create, Update, Destroy}
use Rattle.tf_provider_protocol.specs.declared.verdict.Verdict.{Verdict}
use Rattle.tf_provider_protocol.specs.declared.verdict.Verdict.TheVariants as verdict
use Rattle.tf_state_next.specs.Ends.{as_applied, ApplyResultView, LeftView, SavedView, saved, unchanged}
use Rattle.tf_state_next.specs.Ends as ends
use Rattle.tf_state_next.specs.Saved.{left_by_destroy}
use Rattle.tf_value_data.specs.Tree.{Tree}

-- ---- the rule

good_run : (g : Bool) (m : Option Moment) (c d : ActionResultView) → d ≡ cond g (or_excused m c) skipped → is_good d ≡ true → d ≡ c
good_run true None c d e h = e
good_run true (Some m) c d e h = let no : is_good (excused m) ≡ true = sym (ap is_good e) ∙ h in absurd (cc)
good_run false m c d e h = let no : is_good skipped ≡ true = sym (ap is_good e) ∙ h in absurd (cc)

-- ---- the call

-- a request was made, and called to this end
record IsCalled (ms : List Meaning) (d : ActionResultView) (makes : SchemaView → Result Asked InstanceFaultView) (found : Option SchemaView) : Type 0 where
  schema : SchemaView
  has : found ≡ Some schema
  asked : Asked
  made : makes schema ≡ Ok asked
  calls : d ≡ call_of ms asked

by_schema : (ms : List Meaning) (d : ActionResultView) (makes : SchemaView → Result Asked InstanceFaultView) (found : Option SchemaView) → d ≡ option_map_or (λ s. comes_of ms (makes s)) found skipped → is_good d ≡ true → IsCalled ms d makes found
by_schema ms d makes None e h = let no : is_good skipped ≡ true = sym (ap is_good e) ∙ h in absurd (cc)
by_schema ms d makes (Some schema) e h = by_request (makes schema) refl e
  where
    by_request : (r : Result Asked InstanceFaultView) → makes schema ≡ r → d ≡ comes_of ms r → IsCalled ms d makes (Some schema)
    by_request (Ok asked) is f = record { schema = schema; has = refl; asked = asked; made = is; calls = f }
    by_request (Err why) is f = let no : is_good (faulted why) ≡ true = sym (ap is_good f) ∙ h in absurd (cc)

-- an answer was judged by the schema of its provider
record IsAnswered (d : ActionResultView) (asked : Asked) (found : Option SchemaView) : Type 0 where
  answer : Answer
  schema : SchemaView
  has : found ≡ Some schema
  is : d ≡ called asked (Some answer) (verdict_on asked (Some answer) schema)

by_own : (d : ActionResultView) (asked : Asked) (m : Meaning) (found : Option SchemaView) → d ≡ option_map_or (λ s. called asked (Some (m.answer asked)) (verdict_on asked (Some (m.answer asked)) s)) found skipped → is_good d ≡ true → IsAnswered d asked found
by_own d asked m None e h = let no : is_good skipped ≡ true = sym (ap is_good e) ∙ h in absurd (cc)
by_own d asked m (Some schema) e h = record { answer = m.answer asked; schema = schema; has = refl; is = e }

by_provider : (d : ActionResultView) (asked : Asked) (found : Option Meaning) → d ≡ option_map_or (call_of_provider asked) found skipped → is_good d ≡ true → IsAnswered d asked (option_and_then (λ m. m.schema_of asked.type_name) found)
by_provider d asked None e h = let no : is_good skipped ≡ true = sym (ap is_good e) ∙ h in absurd (cc)
by_provider d asked (Some m) e h = by_own d asked m (m.schema_of asked.type_name) e h

-- ---- what is asked

-- what a step asks is for its own type, and to do what the step does
asks_own : (ignored : List (List ℕ)) (schema : SchemaView) (a : ActionView) (made : Result Tree InstanceFaultView) (step : StepView) (asked : Asked) → asked_by_step ignored schema a made step ≡ Ok asked
    → (asked.type_name ≡ a.addr.type_name) × (asked.op ≡ op_of step)
asks_own ignored schema a (Ok t) (create u) asked e = let is : create_of a t ≡ asked = (cc) in (sym (ap (λ (x : Asked). x.type_name) is), sym (ap (λ (x : Asked). x.op) is))
asks_own ignored schema a (Ok t) (update prior u names) asked e = let is : update_of a prior (kept_object schema ignored prior t) ≡ asked = (cc) in (sym (ap (λ (x : Asked). x.type_name) is), sym (ap (λ (x : Asked). x.op) is))
asks_own ignored schema a (Ok t) (replacement u names) asked e = let is : create_of a t ≡ asked = (cc) in (sym (ap (λ (x : Asked). x.type_name) is), sym (ap (λ (x : Asked). x.op) is))
asks_own ignored schema a (Err why) (create u) asked e = absurd (cc)
asks_own ignored schema a (Err why) (update prior u names) asked e = absurd (cc)
asks_own ignored schema a (Err why) (replacement u names) asked e = absurd (cc)
asks_own ignored schema a made (replaced prior) asked e = let is : destroy_of a None prior ≡ asked = (cc) in (sym (ap (λ (x : Asked). x.type_name) is), sym (ap (λ (x : Asked). x.op) is))
asks_own ignored schema a made (destroyed prior) asked e = let is : destroy_of a None prior ≡ asked = (cc) in (sym (ap (λ (x : Asked). x.type_name) is), sym (ap (λ (x : Asked). x.op) is))
asks_own ignored schema a made (deposed_destroyed key prior) asked e = let is : destroy_of a (Some key) prior ≡ asked = (cc) in (sym (ap (λ (x : Asked). x.type_name) is), sym (ap (λ (x : Asked). x.op) is))

apply_op : (s : StepView) → is_apply s ≡ true → is_destroy (op_of s) ≡ false
apply_op (create t) h = refl
apply_op (update prior t names) h = refl
apply_op (replacement t names) h = refl
apply_op _ h = absurd (cc)

-- ---- good verdicts

pub good_verdict : (v : Verdict) → is_good_verdict v ≡ true → v ≡ verdict.Good
good_verdict verdict.Good h = refl
good_verdict verdict.Failed h = absurd (cc)
good_verdict (verdict.Contradicted n) h = absurd (cc)
good_verdict verdict.Malformed h = absurd (cc)
good_verdict verdict.Excused h = absurd (cc)

-- where an object was asked for, an object was answered well
object_answered : (asked : Asked) (answer : Answer) (schema : SchemaView) → is_destroy asked.op ≡ false → is_good_verdict (verdict_on asked (Some answer) schema) ≡ true
    → (t : Tree) × (answer ≡ object t) × (is_good_verdict (verdict_on_object schema asked.object t) ≡ true)
object_answered asked (object t) schema op h = (t, refl, sym (ap (λ (b : Bool). is_good_verdict (if b then verdict.Malformed else verdict_on_object schema asked.object t)) op) ∙ h)
object_answered asked gone schema op h = let no : is_good_verdict verdict.Malformed ≡ true = sym (ap (λ (b : Bool). is_good_verdict (if b then verdict.Good else verdict.Malformed)) op) ∙ h in absurd (cc)
object_answered asked (failed message there) schema op h = absurd (cc)

-- ---- a good action

-- What came of a good action: it was called, with what was asked by what its instance's block made, and answered.
pub record IsGoodCall (ms : List Meaning) (requests : Requests) (plan : PlanView) (objects : ℕ → InstanceKeyView → Tree) (a : ActionView) (d : ActionResultView) : Type 0 where
  pub schema : SchemaView
  pub has : schema_in a.addr.type_name ms ≡ Some schema
  pub asked : Asked
  pub made : asked_for (plan_names plan) schema a (requests objects a schema) ≡ Ok asked
  pub answer : Answer
  pub is : d ≡ called asked (Some answer) verdict.Good
  pub well : is_good_verdict (verdict_on asked (Some answer) schema) ≡ true
  pub type_name : asked.type_name ≡ a.addr.type_name
  pub op : asked.op ≡ op_of a.step

pub good_call : (ms : List Meaning) (requests : Requests) (plan : PlanView) (excuses : List Excuse) (done : List ActionResultView) (k : ℕ) (a : ActionView) → AreOutcomes ms requests plan excuses done → k < length plan.actions
    → slice_get plan.actions k ≡ Some a → is_good (done_at done k) ≡ true
    → IsGoodCall ms requests plan (objects_by plan (seen_by (done_at done) (predecessors_of plan.order k))) a (done_at done k)
good_call ms requests plan excuses done k a are inside at good =
    let seen = seen_by (done_at done) (predecessors_of plan.order k) in
    let objects = objects_by plan seen in
    let d = done_at done k in
    let run = good_run (all_good seen) (excuse_of excuses k) (call_at ms requests plan k seen) d (are.solves k inside) good in
    let with_a = run ∙ ap (λ (o : Option ActionView). option_map_or {U = ActionResultView} (call_with ms requests plan objects) o skipped) at in
    let made = by_schema ms d (λ s. asked_for (plan_names plan) s a (requests objects a s)) (schema_in a.addr.type_name ms) with_a good in
    let own = asks_own (ignored_by (meant_at (plan_names plan) a.resource)) made.schema a (requests objects a made.schema) a.step made.asked made.made in
    let answered = by_provider d made.asked (first_with made.asked.type_name ms) made.calls good in
    let schemas : Some answered.schema ≡ Some made.schema = sym answered.has ∙ ap (λ (n : List ℕ). schema_in n ms) own.0 ∙ made.has in
    let schema_same : answered.schema ≡ made.schema = (cc) in
    let well : is_good_verdict (verdict_on made.asked (Some answered.answer) answered.schema) ≡ true = sym (ap is_good answered.is) ∙ good in
    record {
      schema = made.schema;
      has = made.has;
      asked = made.asked;
      made = made.made;
      answer = answered.answer;
      is = answered.is ∙ ap (called made.asked (Some answered.answer)) (good_verdict _ well);
      well = subst (λ (s : SchemaView). is_good_verdict (verdict_on made.asked (Some answered.answer) s) ≡ true) schema_same well;
      type_name = own.0;
      op = own.1;
    }

-- What it changes: what was answered is saved, and what was destroyed is gone.
pub record IsDoneWell (ms : List Meaning) (a : ActionView) (d : ActionResultView) : Type 0 where
  pub applied : is_apply a.step ≡ true → applied_of_done ms (op_of a.step) d ≡ saved (object_of d, false)
  pub destroyed : is_apply a.step ≡ false → left_of_done ms d ≡ ends.gone

saves : (schema : SchemaView) (op : Op) (asked : Asked) (t : Tree) → is_destroy op ≡ false → as_applied (saved_by op schema asked (Some (object t)) verdict.Good) ≡ saved (t, false)
saves schema Create asked t h = refl
saves schema Update asked t h = refl
saves schema Destroy asked t h = absurd (cc)

pub done_well : (ms : List Meaning) (requests : Requests) (plan : PlanView) (objects : ℕ → InstanceKeyView → Tree) (a : ActionView) (d : ActionResultView) → IsGoodCall ms requests plan objects a d → IsDoneWell ms a d
done_well ms requests plan objects a d call =
    let schema_of : schema_in call.asked.type_name ms ≡ Some call.schema = ap (λ (n : List ℕ). schema_in n ms) call.type_name ∙ call.has in
    record {
      applied = λ applies.
          let op = apply_op a.step applies in
          let t = object_answered call.asked call.answer call.schema (ap is_destroy call.op ∙ op) call.well in
          let is : d ≡ called call.asked (Some (object t.0)) verdict.Good = call.is ∙ ap (λ (x : Answer). called call.asked (Some x) verdict.Good) t.1 in
          ap (applied_of_done ms (op_of a.step)) is
          ∙ ap (λ (o : Option SchemaView). as_applied (option_map_or {U = Option SavedView} (λ s. saved_by (op_of a.step) s call.asked (Some (object t.0)) verdict.Good) o None)) schema_of
          ∙ saves call.schema (op_of a.step) call.asked t.0 op ∙ ap (λ (x : ActionResultView). saved (object_of x, false)) (sym is);
      destroyed = λ destroys.
          ap (left_of_done ms) call.is
          ∙ ap (λ (o : Option SchemaView). option_map_or (λ s. left_by_destroy s (Some call.answer) verdict.Good) o unchanged) schema_of;
    }

-- and the object that it answered
pub good_object : (ms : List Meaning) (requests : Requests) (plan : PlanView) (objects : ℕ → InstanceKeyView → Tree) (a : ActionView) (d : ActionResultView) (call : IsGoodCall ms requests plan objects a d) → is_apply a.step ≡ true
    → is_good_verdict (verdict_on_object call.schema call.asked.object (object_of d)) ≡ true
good_object ms requests plan objects a d call applies =
    let t = object_answered call.asked call.answer call.schema (ap is_destroy call.op ∙ apply_op a.step applies) call.well in
    let is : object_of d ≡ t.0 = ap object_of (call.is ∙ ap (λ (x : Answer). called call.asked (Some x) verdict.Good) t.1) in
    subst (λ (x : Tree). is_good_verdict (verdict_on_object call.schema call.asked.object x) ≡ true) (sym is) t.2
