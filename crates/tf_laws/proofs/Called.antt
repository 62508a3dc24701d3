-- What was called, and how it was answered.
use Rattle.std.proofs.Common.{◌≡◌, ◌∙◌, ◌<◌, inl, inr, ℕ, Bool, true, false, cond, List, [], ◌∷◌, Option, Some, None, Result, Ok, Err, Contains, length, refl, sym, ap}
use Rattle.std.specs.Option.{option_map_or}
use Rattle.std.specs.Prelude.{slice_get}
use Rattle.tf_plan_data.specs.Action.{ActionView}
use Rattle.tf_config_address.specs.ObjectId.{InstanceKeyView}
use Rattle.tf_plan_object.specs.Instance.{InstanceFaultView}
use Rattle.tf_graph.specs.Digraph.{predecessors_of}
use Rattle.tf_graph.specs.Solutions.{seen_by}
use Rattle.tf_walk_action.specs.Asked.{Requests, asked_for}
use Rattle.tf_walk_action.specs.Excuse.{Moment, excuse_of}
use Rattle.tf_walk_action.specs.Outcome.{AreOutcomes, ActionResultView, all_good, call_at, call_of_provider, call_with, called, comes_of, done_at, is_good, objects_by, or_excused, skipped}
use Rattle.tf_walk_action.specs.declared.excuse.Excuse.{Excuse}
use Rattle.tf_plan_data.specs.Plan.{PlanView, plan_names}
use Rattle.tf_provider_protocol.specs.Meaning.{Answer, Asked, Meaning, first_with, schema_in}
use Rattle.tf_provider_protocol.specs.Schema.{SchemaView}
use Rattle.tf_provider_protocol.specs.declared.verdict.Verdict.{Verdict}
use Rattle.tf_value_data.specs.Tree.{Tree}
use Rattle.tf_graph.proofs.Edges.{contains_cases}
use Rattle.tf_value_data.proofs.Conjunction.{and-first, and-second}
use Rattle.tf_laws.proofs.Lists.{nothing_in}

-- what was called is neither skipped nor excused
not_skipped : (asked : Asked) (answer : Option Answer) (v : Verdict) → skipped ≡ called asked answer v → ⊥
not_skipped asked answer v e = cc

run : (g : Bool) (m : Option Moment) (c : ActionResultView) (asked : Asked) (answer : Option Answer) (v : Verdict) → cond g (or_excused m c) skipped ≡ called asked answer v → (g ≡ true) × (c ≡ called asked answer v)
run true None c asked answer v e = (refl, e)
run true (Some m) c asked answer v e = absurd (cc)
run false m c asked answer v e = absurd (cc)

-- it was called with its own request
asked_same : (q asked : Asked) (a b : Option Answer) (v w : Verdict) → called q a v ≡ called asked b w → q ≡ asked
asked_same q asked a b v w e = cc

by_own : (q asked : Asked) (m : Meaning) (found : Option SchemaView) (answer : Option Answer) (v : Verdict) (check_names : SchemaView → Verdict) → option_map_or (λ s. called q (Some (m.answer q)) (check_names s)) found skipped ≡ called asked answer v → q ≡ asked
by_own q asked m None answer v check_names e = absurd (cc)
by_own q asked m (Some schema) answer v check_names e = asked_same q asked (Some (m.answer q)) answer (check_names schema) v e

by_provider : (q asked : Asked) (found : Option Meaning) (answer : Option Answer) (v : Verdict) → option_map_or (call_of_provider q) found skipped ≡ called asked answer v → q ≡ asked
by_provider q asked None answer v e = absurd (cc)
by_provider q asked (Some m) answer v e = by_own q asked m (m.schema_of q.type_name) answer v _ e

by_request : (ms : List Meaning) (r : Result Asked InstanceFaultView) (asked : Asked) (answer : Option Answer) (v : Verdict) → comes_of ms r ≡ called asked answer v → r ≡ Ok asked
by_request ms (Ok q) asked answer v e = ap Ok (by_provider q asked (first_with q.type_name ms) answer v e)
by_request ms (Err why) asked answer v e = absurd (cc)

by_schema : (ms : List Meaning) (makes : SchemaView → Result Asked InstanceFaultView) (found : Option SchemaView) (asked : Asked) (answer : Option Answer) (v : Verdict)
    → option_map_or (λ s. comes_of ms (makes s)) found skipped ≡ called asked answer v → (schema : SchemaView) × (found ≡ Some schema) × (makes schema ≡ Ok asked)
by_schema ms makes None asked answer v e = absurd (cc)
by_schema ms makes (Some schema) asked answer v e = (schema, refl, by_request ms (makes schema) asked answer v e)

-- An action that was called asked this, by what instances stood for after the actions directly before it, and all these are good.
pub record IsCall (ms : List Meaning) (requests : Requests) (plan : PlanView) (objects : ℕ → InstanceKeyView → Tree) (a : ActionView) (asked : Asked) (seen : List (ℕ × ActionResultView)) : Type 0 where
  pub good : all_good seen ≡ true
  pub schema : SchemaView
  pub has : schema_in a.addr.type_name ms ≡ Some schema
  pub asks : asked_for (plan_names plan) schema a (requests objects a schema) ≡ Ok asked

pub call_made : (ms : List Meaning) (requests : Requests) (plan : PlanView) (excuses : List Excuse) (done : List ActionResultView) (k : ℕ) (a : ActionView) (asked : Asked) (answer : Option Answer) (v : Verdict)
    → AreOutcomes ms requests plan excuses done → k < length plan.actions → slice_get plan.actions k ≡ Some a → done_at done k ≡ called asked answer v
    → IsCall ms requests plan (objects_by plan (seen_by (done_at done) (predecessors_of plan.order k))) a asked (seen_by (done_at done) (predecessors_of plan.order k))
call_made ms requests plan excuses done k a asked answer v are inside at is =
    let seen = seen_by (done_at done) (predecessors_of plan.order k) in
    let objects = objects_by plan seen in
    let ran = run (all_good seen) (excuse_of excuses k) (call_at ms requests plan k seen) asked answer v (sym (are.solves k inside) ∙ is) in
    let with_a = sym (ap (λ (o : Option ActionView). option_map_or {U = ActionResultView} (call_with ms requests plan objects) o skipped) at) ∙ ran.1 in
    let made = by_schema ms (λ s. asked_for (plan_names plan) s a (requests objects a s)) (schema_in a.addr.type_name ms) asked answer v with_a in
    record { good = ran.0; schema = made.0; has = made.1; asks = made.2 }

-- each action that is seen is good
pub seen_good : (results : ℕ → ActionResultView) (ks : List ℕ) (j : ℕ) → all_good (seen_by results ks) ≡ true → Contains ks j → is_good (results j) ≡ true
seen_good results [] j h c = absurd (nothing_in j c)
seen_good results (k ∷ ks) j h c = elim (contains_cases j k ks c) [
  | inl here ↦ ap (λ (i : ℕ). is_good (results i)) (sym here) ∙ and-first (is_good (results k)) (all_good (seen_by results ks)) h
  | inr later ↦ seen_good results ks j (and-second (is_good (results k)) (all_good (seen_by results ks)) h) later
]
