-- Where nothing is refused, each instance that is looked at is decided; and what is decided of one.
use Rattle.std.proofs.Common.{◌≡◌, ◌∙◌, ◌+◌, ◌++◌, ℕ, Bool, true, false, cond, if◌then◌else◌, List, [], ◌∷◌, map, Option, Some, None, Result, Ok, Err, refl, sym, ap}
use Rattle.std.specs.List.{AllByRecursion, enumerate_from, flat_map}
use Rattle.std.specs.Prelude.{slice_get}
use Rattle.tf_plan_data.specs.Action.{StepView}
use Rattle.tf_config_address.specs.ObjectId.{InstanceKeyView}
use Rattle.tf_plan_object.specs.Instance.{InstanceFaultView, for_each_fault, argument_fault, instance_object}
use Rattle.tf_config_data.specs.Config.{BlockView, LifecycleView}
use Rattle.tf_config_data.specs.Names.{NameView, Meant, a_local, a_block, directly_before}
use Rattle.tf_plan_decision.proofs.Appending.{flat_flat, numbered_outcome}
use Rattle.tf_plan_decision.specs.Deciding.{OfView, RefusedInstanceView, fault_in, instance_refusals, of_at}
use Rattle.tf_plan_decision.specs.Outcome.{OutcomeView, by_decision, declared_outcome, member_outcome, orphan_outcome, removal_outcome}
use Rattle.tf_plan_decision.specs.Stage.{block_members}
use Rattle.tf_plan_decision.specs.Steps.{decided_steps}
use Rattle.tf_plan_decision.specs.Whole.{block_instances, instances, instances_at, name_instances}
use Rattle.tf_plan_decision.specs.Decision as decision
use Rattle.tf_plan_decision.specs.Decision.{DecisionView, DecisionFaultView, change, current, decided, no_provider, unless_prevented, unless_unfit}
use Rattle.tf_plan_decision.specs.Ignored.{with_ignored_changes, ignored_fault}
use Rattle.tf_plan_decision.specs.Prior.{PriorFaultView, first_unfit}
use Rattle.tf_expand_keys.specs.InstanceKeys.{InstanceKeysView}
use Rattle.tf_expand_keys.specs.Resolved.{ResolvedView, all_stand, environment}
use Rattle.tf_expr_eval.specs.Environment.{Environment}
use Rattle.tf_graph.specs.Solutions.{seen_by}
use Rattle.tf_plan_order.specs.Members.{InstanceToPlanView, is_among, member, members, records_of}
use Rattle.tf_provider_protocol.specs.Meaning.{Meaning, schema_in}
use Rattle.tf_provider_protocol.specs.Schema.{SchemaView}
use Rattle.tf_plan_order.specs.ResourceIndex.{ResourceRefView, a_name, an_orphan, numbered}
use Rattle.tf_state_data.specs.Record.{RecordView}
use Rattle.tf_state_data.specs.Resource.{ResourceView}
use Rattle.tf_value_data.specs.Tree.{Tree, Entries}

-- ---- one instance

fit_decided : (o : Option PriorFaultView) (r : Result DecisionView DecisionFaultView) (d : DecisionView) → unless_unfit o r ≡ Ok d → (o ≡ None) × (r ≡ Ok d)
fit_decided None r d e = (refl, e)
fit_decided (Some fault) r d e = absurd (cc)

not_prevented : (prevents : Bool) (x d : DecisionView) → unless_prevented prevents x ≡ Ok d → x ≡ d
not_prevented false x d e = cc
not_prevented true decision.nothing d e = cc
not_prevented true (decision.create t) d e = cc
not_prevented true (decision.update t names) d e = cc
not_prevented true (decision.replace t names) d e = absurd (cc)

changed : (schema : SchemaView) (lifecycle : LifecycleView) (prior : Option RecordView) (q : Result Tree InstanceFaultView) (d : DecisionView) → decided schema lifecycle prior q ≡ Ok d
    → (t : Tree) × (q ≡ Ok t) × (change schema lifecycle.ignore_changes prior t ≡ d)
changed schema lifecycle prior (Ok t) d e = (t, refl, not_prevented lifecycle.prevent_destroy (change schema lifecycle.ignore_changes prior t) d e)
changed schema lifecycle prior (Err why) d e = absurd (cc)

heeded : (o : Option (List ℕ)) (p : Result Tree InstanceFaultView) (t : Tree) → with_ignored_changes o p ≡ Ok t → (o ≡ None) × (p ≡ Ok t)
heeded None p t e = (refl, e)
heeded (Some name) (Ok u) t e = absurd (cc)
heeded (Some name) (Err (for_each_fault why)) t e = absurd (cc)
heeded (Some name) (Err (argument_fault found)) t e = absurd (cc)

-- What is decided is a change by what the block makes of the instance, beside objects that fit.
pub record IsDecided (schema : SchemaView) (lifecycle : LifecycleView) (records : List RecordView) (p : Result Tree InstanceFaultView) (d : DecisionView) : Type 0 where
  pub made : Tree
  pub makes : p ≡ Ok made
  pub changes : change schema lifecycle.ignore_changes (current records) made ≡ d
  pub fits : first_unfit schema records ≡ None
  pub heeds : ignored_fault schema lifecycle.ignore_changes ≡ None

pub decision_is : (schema : SchemaView) (lifecycle : LifecycleView) (records : List RecordView) (p : Result Tree InstanceFaultView) (d : DecisionView) → decision.decision schema lifecycle records p ≡ Ok d
    → IsDecided schema lifecycle records p d
decision_is schema lifecycle records p d e =
    let q = with_ignored_changes (ignored_fault schema lifecycle.ignore_changes) p in
    let fit = fit_decided (first_unfit schema records) (decided schema lifecycle (current records) q) d e in
    let found = changed schema lifecycle (current records) q d fit.1 in
    let own = heeded (ignored_fault schema lifecycle.ignore_changes) p found.0 found.1 in
    record { made = found.0; makes = own.1; changes = found.2; fits = fit.0; heeds = own.0 }

-- steps are those of a decision
pub by_decision-is : (records : List RecordView) (r : Result DecisionView DecisionFaultView) (steps : List StepView) → by_decision records r ≡ Ok steps → (d : DecisionView) × (r ≡ Ok d) × (decided_steps records d ≡ steps)
by_decision-is records (Ok d) steps e = (d, refl, (cc))
by_decision-is records (Err why) steps e = absurd (cc)

-- ---- all of them

-- an instance is decided, and not refused
abbrev pub IsFine : OutcomeView → Type 0
IsFine o = (steps : List StepView) × (o ≡ Ok steps)

-- a member that isn't refused has the steps of a decision
pub record IsDecidedMember (found : Option SchemaView) (block : BlockView) (env : Environment) (keys : List InstanceKeyView) (records : List RecordView) (key : InstanceKeyView) : Type 0 where
  pub schema : SchemaView
  pub has : found ≡ Some schema
  pub choice : DecisionView
  pub decides : decision.decision schema block.lifecycle (records_of key records) (instance_object schema block key env) ≡ Ok choice
  pub outcome : member_outcome found block env (member keys records key) ≡ Ok (decided_steps (records_of key records) choice)

pub decided_member : (found : Option SchemaView) (block : BlockView) (env : Environment) (keys : List InstanceKeyView) (records : List RecordView) (key : InstanceKeyView) → is_among keys key ≡ true
    → IsFine (member_outcome found block env (member keys records key)) → IsDecidedMember found block env keys records key
decided_member None block env keys records key among fine = let no : ◌≡◌ {A = OutcomeView} (Err no_provider) (Ok fine.0) = fine.1 in absurd (cc)
decided_member (Some schema) block env keys records key among fine =
    let m = member keys records key in
    let outcome = λ (b : Bool). if b then declared_outcome schema block env m else removal_outcome schema (Some block.lifecycle) m in
    let own = records_of key records in
    let p = instance_object schema block key env in
    let d = by_decision-is own (decision.decision schema block.lifecycle own p) fine.0 (sym (ap outcome among) ∙ fine.1) in
    record { schema = schema; has = refl; choice = d.0; decides = d.1; outcome = fine.1 ∙ ap Ok (sym d.2) }

-- what is refused of one list and of another is refused of neither where there is nothing of both
pub neither : {A : Type 0} (xs ys : List A) → xs ++ ys ≡ [] → (xs ≡ []) × (ys ≡ [])
neither [] ys e = (refl, e)
neither (x ∷ xs) ys e = absurd (cc)

outcome_fine : (of : OfView) (key : InstanceKeyView) (o : OutcomeView) (rest : List RefusedInstanceView) → map (λ why. record { addr = of.addr; key = key; why = why }) (fault_in o) ++ rest ≡ [] → IsFine o × (rest ≡ [])
outcome_fine of key (Ok steps) rest e = ((steps, refl), e)
outcome_fine of key (Err why) rest e = absurd (cc)

members_fine : (of : OfView) (becomes : InstanceToPlanView → OutcomeView) (i : ℕ) (ms : List InstanceToPlanView)
    → flat_map instance_refusals (map (numbered_outcome of becomes) (enumerate_from i ms)) ≡ [] → AllByRecursion (λ m. IsFine (becomes m)) ms
members_fine of becomes i [] e = tt
members_fine of becomes i (m ∷ ms) e =
    let here = outcome_fine of m.key (becomes m) (flat_map instance_refusals (map (numbered_outcome of becomes) (enumerate_from (i + 1) ms))) e in
    (here.0, members_fine of becomes (i + 1) ms here.1)

module _ (ms : List Meaning) (resources : List ResourceView) (variables : Entries) (names : List NameView) (shapes : ℕ → InstanceKeysView) (resolved_names : ℕ → ResolvedView) where
  abbrev pub IsMeantFine : ℕ → Meant → Type 0
  IsMeantFine n (a_local e) = Unit {0}
  IsMeantFine n (a_block block) =
      all_stand (seen_by resolved_names (directly_before names n)) ≡ true
      → AllByRecursion (λ m. IsFine (member_outcome (schema_in block.addr.type_name ms) block (environment variables names resolved_names) m)) (block_members (shapes n) block resources)

  -- each instance of what stands at a place is decided
  abbrev pub IsNumberedFine : ℕ → Option ResourceRefView → Type 0
  IsNumberedFine n None = Unit {0}
  IsNumberedFine n (Some (a_name name)) = IsMeantFine n name.meant
  IsNumberedFine n (Some (an_orphan r)) = AllByRecursion (λ m. IsFine (orphan_outcome (schema_in r.addr.type_name ms) m)) (members [] r.records)

  meant_fine : (n : ℕ) (m : Meant) → flat_map instance_refusals (name_instances ms resources variables names shapes resolved_names n m) ≡ [] → IsMeantFine n m
  meant_fine n (a_local e) h = tt
  meant_fine n (a_block block) h = by_test (all_stand (seen_by resolved_names (directly_before names n))) h
    where
      by_test : (b : Bool) → flat_map instance_refusals (cond b (block_instances ms resources n block (environment variables names resolved_names) (shapes n)) []) ≡ []
          → b ≡ true → AllByRecursion (λ m. IsFine (member_outcome (schema_in block.addr.type_name ms) block (environment variables names resolved_names) m)) (block_members (shapes n) block resources)
      by_test true e is =
          members_fine (of_at ms n block.addr) (member_outcome (schema_in block.addr.type_name ms) block (environment variables names resolved_names)) 0 (block_members (shapes n) block resources) e
      by_test false e is = absurd (cc)

  numbered_fine : (n : ℕ) (o : Option ResourceRefView) → flat_map instance_refusals (instances_at ms resources variables names shapes resolved_names n o) ≡ [] → IsNumberedFine n o
  numbered_fine n None h = tt
  numbered_fine n (Some (a_name name)) h = meant_fine n name.meant h
  numbered_fine n (Some (an_orphan r)) h = members_fine (of_at ms n r.addr) (orphan_outcome (schema_in r.addr.type_name ms)) 0 (members [] r.records) h

  each_fine : (order : List ℕ)
      → flat_map (λ n. flat_map instance_refusals (instances_at ms resources variables names shapes resolved_names n (slice_get (numbered names resources) n))) order ≡ []
      → AllByRecursion (λ n. IsNumberedFine n (slice_get (numbered names resources) n)) order
  each_fine [] h = tt
  each_fine (n ∷ order) h =
      let own = flat_map instance_refusals (instances_at ms resources variables names shapes resolved_names n (slice_get (numbered names resources) n)) in
      let parts = neither own (flat_map (λ k. flat_map instance_refusals (instances_at ms resources variables names shapes resolved_names k (slice_get (numbered names resources) k))) order) h in
      (numbered_fine n (slice_get (numbered names resources) n) parts.0, each_fine order parts.1)

  -- where nothing is refused, each instance at each place is decided
  pub all_fine : (order : List ℕ) → flat_map instance_refusals (instances ms resources variables names shapes resolved_names order) ≡ []
      → AllByRecursion (λ n. IsNumberedFine n (slice_get (numbered names resources) n)) order
  all_fine order h =
      each_fine order
      (sym (flat_flat instance_refusals (λ n. instances_at ms resources variables names shapes resolved_names n (slice_get (numbered names resources) n)) order) ∙ h)
