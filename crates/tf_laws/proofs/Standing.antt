-- In a plan without a refusal each name stands for something.
use Rattle.std.proofs.Common.{◌≡◌, ◌∙◌, ◌<◌, ◌||◌, ℕ, Bool, true, false, if◌then◌else◌, List, [], ◌∷◌, Option, Some, None, is_some, option_map, Result, Ok, Err, length, refl, ap}
use Rattle.std.specs.List.{AllByRecursion, list_all}
use Rattle.std.specs.Option.{option_and_then}
use Rattle.std.specs.Prelude.{is_none}
use Rattle.tf_plan_data.specs.Action.{ActionView, StepView}
use Rattle.tf_config_address.specs.ObjectId.{InstanceKeyView}
use Rattle.tf_plan_object.specs.Instance.{instance_object}
use Rattle.tf_config_data.specs.Config.{BlockView, LifecycleView}
use Rattle.tf_config_data.specs.Names.{NameView, Meant, a_local, a_block, meant_at, directly_before}
use Rattle.tf_plan_decision.proofs.Local.{stage_local}
use Rattle.tf_plan_decision.specs.Outcome.{OutcomeView, by_removal, declared_outcome, member_outcome, removal_outcome}
use Rattle.tf_plan_decision.specs.Stage.{all_can_go, can_go, decided_object, deciding, object_beside, object_of, object_unless_refused, records_at, stays_or_goes}
use Rattle.tf_plan_decision.specs.Decision as decision
use Rattle.tf_plan_decision.specs.Decision.{DecisionView, DecisionFaultView, change, current, removal_fault}
use Rattle.tf_expand_keys.proofs.Locals.{all_seen}
use Rattle.tf_expand_keys.proofs.Places.{along, names_stay}
use Rattle.tf_expand_keys.specs.InstanceKeys.{InstanceKeysView, one, many, named, instance_keys, collected, objects_at}
use Rattle.tf_expand_keys.specs.Resolved.{ResolvedView, AreResolvedNames, all_stand, environment, stands_at, together}
use Rattle.tf_expr_eval.proofs.Locality.{expressions_local}
use Rattle.tf_expr_eval.specs.Environment.{Environment}
use Rattle.tf_graph.specs.Solutions.{Ranked, seen_by}
use Rattle.tf_plan_order.specs.Members.{InstanceToPlanView, is_among, member, members, records_of}
use Rattle.tf_expr_operators.specs.Answer.{limited}
use Rattle.tf_plan_planner.specs.Planned.{IsPlanned, unrefused}
use Rattle.tf_provider_protocol.specs.Meaning.{Meaning, schema_in}
use Rattle.tf_provider_protocol.specs.Schema.{SchemaView}
use Rattle.tf_state_data.specs.Record.{RecordView}
use Rattle.tf_state_data.specs.Resource.{ResourceView}
use Rattle.tf_expr_syntax.specs.ExprTree as expr
use Rattle.tf_value_data.proofs.Conjunction.{and-both}
use Rattle.tf_value_data.specs.Tree.{Tree, Entries}
use Rattle.tf_laws.proofs.Decided.{IsFine, decided_member, decision_is}
use Rattle.tf_laws.proofs.Fine.{block_fine}
use Rattle.tf_laws.proofs.Members.{all_among, instance_holds}
use Rattle.tf_laws.proofs.Places.{meant_there}
use Rattle.tf_laws.proofs.Still.{chosen, all_there}

-- ---- one member

refused_none : (o : Option DecisionFaultView) (records : List RecordView) (steps : List StepView) → by_removal records o ≡ Ok steps → o ≡ None
refused_none None records steps e = refl
refused_none (Some why) records steps e = absurd (cc)

goes : (schema : SchemaView) (lifecycle : LifecycleView) (m : InstanceToPlanView) (o : Option DecisionFaultView) → removal_fault schema (Some lifecycle) m.records ≡ o → o ≡ None → can_go (Some schema) lifecycle m ≡ true
goes schema lifecycle m None e none = ap is_none e
goes schema lifecycle m (Some why) e none = absurd (cc)

-- a member that isn't refused stays or goes
fine_goes : (found : Option SchemaView) (block : BlockView) (env : Environment) (m : InstanceToPlanView) → IsFine (member_outcome found block env m) → stays_or_goes found block.lifecycle m ≡ true
fine_goes None block env m fine = let no : ◌≡◌ {A = OutcomeView} (Err _) (Ok fine.0) = fine.1 in absurd (cc)
fine_goes (Some schema) block env m fine = by_test m.is_declared fine
  where
    by_test : (b : Bool) → IsFine (if b then declared_outcome schema block env m else removal_outcome schema (Some block.lifecycle) m) → (b || can_go (Some schema) block.lifecycle m) ≡ true
    by_test true f = refl
    by_test false f =
        let o = removal_fault schema (Some block.lifecycle) m.records in
        goes schema block.lifecycle m o refl (refused_none o m.records f.0 f.1)

pub all_fine-go : (found : Option SchemaView) (block : BlockView) (env : Environment) (ms : List InstanceToPlanView) → AllByRecursion (λ m. IsFine (member_outcome found block env m)) ms → list_all (stays_or_goes found block.lifecycle) ms ≡ true
all_fine-go found block env [] h = refl
all_fine-go found block env (m ∷ ms) h = and-both (stays_or_goes found block.lifecycle m) _ (fine_goes found block env m h.0) (all_fine-go found block env ms h.1)

-- nothing is done only beside an object
beside_some : (schema : SchemaView) (ignored : List (List ℕ)) (prior : Option RecordView) (made : Tree) (d : DecisionView) → change schema ignored prior made ≡ d → is_some (object_beside prior d) ≡ true
beside_some schema ignored (Some r) made decision.nothing e = refl
beside_some schema ignored None made decision.nothing e = absurd (cc)
beside_some schema ignored prior made (decision.create t) e = refl
beside_some schema ignored prior made (decision.update t names) e = refl
beside_some schema ignored prior made (decision.replace t names) e = refl

-- a member of the configuration that isn't refused stands for an object
pub fine_stands : (found : Option SchemaView) (block : BlockView) (env : Environment) (keys : List InstanceKeyView) (records : List RecordView) (key : InstanceKeyView) → is_among keys key ≡ true
    → IsFine (member_outcome found block env (member keys records key)) → is_some (option_and_then (λ schema. object_of schema block (records_of key records) env key) found) ≡ true
fine_stands found block env keys records key among fine =
    let own = records_of key records in
    let d = decided_member found block env keys records key among fine in
    let is = decision_is d.schema block.lifecycle own (instance_object d.schema block key env) d.choice d.decides in
    ap (λ (o : Option SchemaView). is_some (option_and_then (λ schema. object_of schema block own env key) o)) d.has
    ∙ ap (λ (r : Result DecisionView DecisionFaultView). is_some (object_unless_refused own r)) d.decides ∙ beside_some d.schema block.lifecycle.ignore_changes (current own) is.made d.choice is.changes

-- ---- objects that stand together

some_mapped : {A B : Type 0} (o : Option A) (f : A → B) → is_some o ≡ true → is_some (option_map f o) ≡ true
some_mapped (Some a) f h = refl
some_mapped None f h = absurd (cc)

both_some : (o : Option Tree) (rest : Option (List Tree)) → is_some o ≡ true → is_some rest ≡ true → is_some (option_and_then (λ t. option_map (λ ts. t ∷ ts) rest) o) ≡ true
both_some (Some t) rest h g = some_mapped rest (λ ts. t ∷ ts) g
both_some None rest h g = absurd (cc)

objects_some : (f : InstanceKeyView → Option Tree) (ks : List InstanceKeyView) → AllByRecursion (λ k. is_some (f k) ≡ true) ks → is_some (objects_at f ks) ≡ true
objects_some f [] h = refl
objects_some f (k ∷ ks) h = both_some (f k) (objects_at f ks) h.0 (objects_some f ks h.1)

laid_some : (shape : InstanceKeysView) (f : InstanceKeyView → Option Tree) → AllByRecursion (λ k. is_some (f k) ≡ true) (instance_keys shape) → is_some (collected shape f) ≡ true
laid_some one f h = h.0
laid_some (many n) f h = some_mapped (objects_at f (instance_keys (many n))) _ (objects_some f (instance_keys (many n)) h)
laid_some (named names) f h = some_mapped (objects_at f (instance_keys (named names))) _ (objects_some f (instance_keys (named names)) h)

-- ---- all names

module _ (ms : List Meaning) (variables : Entries) (names : List NameView) (outputs : expr.Entries) (shapes : ℕ → InstanceKeysView) (resources : List ResourceView) (actions : List ActionView)
    (planned : IsPlanned ms resources variables names outputs shapes (unrefused actions))
    (resolved_names : ℕ → ResolvedView) (solves : AreResolvedNames (deciding ms resources shapes) variables names resolved_names) (ranked : Ranked (directly_before names)) where
  meant_some : (n : ℕ) (m : Meant) → meant_at names n ≡ Some m → all_stand (seen_by resolved_names (directly_before names n)) ≡ true
      → is_some (stands_at (deciding ms resources shapes) n (Some m) (environment variables names resolved_names)) ≡ true
  meant_some n (a_local e) meant seen = refl
  meant_some n (a_block block) meant seen =
      let env = environment variables names resolved_names in
      let records = records_at block.addr resources in
      let ks = instance_keys (shapes n) in
      let fine = block_fine ms variables names outputs shapes resources actions planned resolved_names solves ranked n block meant seen in
      let go : all_can_go ms resources (shapes n) block ≡ true = all_fine-go (schema_in block.addr.type_name ms) block env (members ks records) fine in
      ap (λ (b : Bool). is_some (together (if b then Some (shapes n) else None) (decided_object ms resources n block env))) go
      ∙ some_mapped (collected (shapes n) (decided_object ms resources n block env)) limited
      (laid_some (shapes n) (decided_object ms resources n block env)
      (all_among (λ key. is_some (decided_object ms resources n block env key) ≡ true) ks
      (λ key among. fine_stands (schema_in block.addr.type_name ms) block env ks records key among
      (instance_holds (λ m. IsFine (member_outcome (schema_in block.addr.type_name ms) block env m)) ks records key fine among))))

  some_at : (n : ℕ) → n < length names → AllByRecursion (λ a. is_some (resolved_names a) ≡ true) (directly_before names n) → is_some (resolved_names n) ≡ true
  some_at n h before =
      let m = meant_there names n h in
      let seen = all_there resolved_names (directly_before names n) before in
      let env = environment variables names resolved_names in
      let alone : resolved_names n ≡ stands_at (deciding ms resources shapes) n (meant_at names n) env =
      all_seen expressions_local (deciding ms resources shapes) variables names resolved_names (stage_local ms resources shapes) solves n h
      ∙ chosen (all_stand (seen_by resolved_names (directly_before names n))) (stands_at (deciding ms resources shapes) n (meant_at names n) env) None seen in
      ap is_some (alone ∙ ap (λ (o : Option Meant). stands_at (deciding ms resources shapes) n o env) m.1) ∙ meant_some n m.0 m.1 seen

  -- each name stands for something
  pub all_some : (n : ℕ) → n < length names → is_some (resolved_names n) ≡ true
  all_some n h = along (length names) (directly_before names) (λ a. is_some (resolved_names a) ≡ true) ranked (names_stay names) some_at n h

  -- so all that stands directly before a name does
  pub before_stand : (n : ℕ) → n < length names → all_stand (seen_by resolved_names (directly_before names n)) ≡ true
  before_stand n h = all_there resolved_names (directly_before names n) (within (directly_before names n) (names_stay names n h))
    where
      within : (ns : List ℕ) → AllByRecursion (λ a. a < length names) ns → AllByRecursion (λ a. is_some (resolved_names a) ≡ true) ns
      within [] g = tt
      within (a ∷ ns) g = (all_some a g.0, within ns g.1)
