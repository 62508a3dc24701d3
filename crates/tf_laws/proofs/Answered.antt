-- Where the instances of what a resource needs stand for what the plan says of them, what names stand for in the plan refines to
-- what they stand for then, as far as the resource needs them.
use Rattle.std.proofs.Common.{◌≡◌, ◌∙◌, ◌&&◌, ◌++◌, ◌⊎◌, inl, inr, ℕ, Bool, true, false, if◌then◌else◌, Option, Some, None, Result, List, Contains, option_map, refl, sym, ap, subst, arith}
use Rattle.std.proofs.lemmas.List.Elements.{Contains-append_left}
use Rattle.std.specs.List.{AllByRecursion, flat_map}
use Rattle.std.specs.Option.{option_and_then, option_map_or, unwrap_or}
use Rattle.tf_plan_data.specs.Action.{ActionView, StepView, create, update, replacement}
use Rattle.tf_config_address.specs.ObjectId.{InstanceKeyView}
use Rattle.tf_laws.specs.AskingLaws.{IsAnsweredPlan, planned_object}
use Rattle.tf_plan_object.proofs.Locals.{instances_local}
use Rattle.tf_plan_object.specs.Instance.{InstanceFaultView, instance_object}
use Rattle.tf_config_data.specs.Config.{BlockView}
use Rattle.tf_config_data.specs.Names.{Meant, a_block, block_refers, directly_before, meant_at, places, refers_at}
use Rattle.tf_laws.proofs.After.{nothing_deposed}
use Rattle.tf_laws.proofs.Declared.{IsPlannedAt, planned_at, records_in}
use Rattle.tf_laws.proofs.Lists.{all_contained}
use Rattle.tf_laws.proofs.OneRecord.{current_known}
use Rattle.tf_plan_decision.specs.Stage.{decided_object, object_beside, object_of, object_unless_refused}
use Rattle.tf_plan_decision.specs.Steps.{current_steps, decided_steps, deposed_step}
use Rattle.tf_plan_decision.specs.Decision as decision
use Rattle.tf_plan_decision.specs.Decision.{DecisionView, change, current}
use Rattle.tf_expand_keys.proofs.Seen.{agree_on, same_seen}
use Rattle.tf_expand_keys.specs.InstanceKeys.{instance_keys}
use Rattle.tf_expand_keys.specs.Resolved.{environment, environment_at, result_in}
use Rattle.tf_expr_eval.proofs.Locality.{expressions_local}
use Rattle.tf_expr_eval.specs.Locality.{AgreeOn}
use Rattle.tf_graph.specs.Solutions.{seen_by}
use Rattle.tf_plan_order.specs.Members.{is_among}
use Rattle.tf_walk_action.specs.Objects.{prior_object}
use Rattle.tf_plan_data.specs.Fits.{IsDeclared, is_apply}
use Rattle.tf_plan_data.specs.Plan.{plan_names}
use Rattle.tf_provider_protocol.specs.Schema.{SchemaView}
use Rattle.tf_walk_report.proofs.Apart.{apply_is_current}
use Rattle.tf_state_data.specs.Record.{RecordView}
use Rattle.tf_value_data.proofs.Conjunction.{and-both, and-first, and-second}
use Rattle.tf_value_data.proofs.Order.{Refines-refl}
use Rattle.tf_value_data.specs.Refinement.{Refines}
use Rattle.tf_value_data.specs.Tree.{Tree, null}
use Rattle.tf_laws.proofs.PlannedParts.{Made, setting}
use Rattle.tf_laws.specs.Requests.{StandAsPlanned}

-- ---- one instance

-- what an instance stands for in the plan is what a step is planned with, or nothing is decided
made_step : (schema : SchemaView) (ignored : List (List ℕ)) (records : List RecordView) (made t : Tree) (d : DecisionView) → change schema ignored (current records) made ≡ d → object_beside (current records) d ≡ Some t
    → (d ≡ decision.nothing) ⊎ ((s : StepView) × Contains (decided_steps records d) s × (planned_object s ≡ Some t))
made_step schema ignored records made t d e beside = by_current (current records) refl d e beside
  where
    by_current : (o : Option RecordView) → current records ≡ o → (c : DecisionView) → change schema ignored o made ≡ c → object_beside o c ≡ Some t
        → (c ≡ decision.nothing) ⊎ ((s : StepView) × Contains (decided_steps records c) s × (planned_object s ≡ Some t))
    by_current o is decision.nothing f b = inl refl
    by_current o is (decision.create u) f b = inr (create u, Contains-append_left (current_steps (current records) (decision.create u)) (flat_map deposed_step records) (create u) (0, omega arith, refl), b)
    by_current None is (decision.update u names) f b = absurd (cc)
    by_current (Some r) is (decision.update u names) f b =
        inr
        (update r.attributes u names, subst (λ (x : Option RecordView). Contains (current_steps x (decision.update u names) ++ flat_map deposed_step records) (update r.attributes u names)) (sym is) (0, omega arith, refl), b)
    by_current None is (decision.replace u names) f b = absurd (cc)
    by_current (Some r) is (decision.replace u names) f b =
        inr
        (replacement u names, subst (λ (x : Option RecordView). Contains (current_steps x (decision.replace u names) ++ flat_map deposed_step records) (replacement u names)) (sym is) (0, omega arith, refl), b)

-- the object of a record that is there
object_there : (o : Option RecordView) (t : Tree) → option_map (λ (r : RecordView). r.attributes) o ≡ Some t → option_map_or (λ (r : RecordView). r.attributes) o null ≡ t
object_there None t e = absurd (cc)
object_there (Some r) t e = cc

module _ (x : Made) where
  -- what a name sees is what all names stand for, as far as its block refers to it
  sees_refers : (n : ℕ) (block : BlockView) → meant_at (plan_names x.plan) n ≡ Some (a_block block)
      → AgreeOn (environment x.plan.variables (plan_names x.plan) x.resolved_names) (environment_at x.plan.variables (plan_names x.plan) x.resolved_names n) (block_refers block)
  sees_refers n block meant =
      agree_on x.plan.variables (plan_names x.plan) x.resolved_names (result_in (seen_by x.resolved_names (directly_before (plan_names x.plan) n))) (block_refers block)
      (subst (λ (m : Option Meant). AllByRecursion (λ b. x.resolved_names b ≡ result_in (seen_by x.resolved_names (directly_before (plan_names x.plan) n)) b) (places (plan_names x.plan) (refers_at m))) meant
      (same_seen x.resolved_names (directly_before (plan_names x.plan) n)))

  -- an action that makes or changes an object of a block's resource is at the block's address
  addr_is : (n : ℕ) (block : BlockView) (a : ActionView) → meant_at (plan_names x.plan) n ≡ Some (a_block block) → Contains x.plan.actions a → is_apply a.step ≡ true → a.resource ≡ n → a.addr ≡ block.addr
  addr_is n block a meant c applies resource =
      let own = all_contained (IsDeclared (plan_names x.plan)) x.plan.actions a x.fit.declared c applies in
      let both : Some (a_block own.block) ≡ Some (a_block block) = sym own.stands ∙ ap (meant_at (plan_names x.plan)) resource ∙ meant in
      let same : own.block ≡ block = (cc) in
      sym own.own ∙ ap (λ (b : BlockView). b.addr) same

  module _ (place : ℕ) (objects : ℕ → InstanceKeyView → Tree) (keep : StandAsPlanned x.plan place objects) where
    -- the object of an instance in the plan refines to the one that it stands for
    planned_refines : (n : ℕ) (block : BlockView) (key : InstanceKeyView) (t : Tree) → meant_at (plan_names x.plan) n ≡ Some (a_block block) → x.plan.needs place n ≡ true → is_among (instance_keys (x.plan.shapes n)) key ≡ true
        → decided_object x.ms x.plan.prior.resources n block (environment_at x.plan.variables (plan_names x.plan) x.resolved_names n) key ≡ Some t → Refines t (objects n key)
    planned_refines n block key t meant need among e = by_plan (planned_at (setting x) n block key meant among)
      where
        by_plan : IsPlannedAt (setting x) n block key → Refines t (objects n key)
        by_plan q =
            let records = records_in (setting x) block key in
            let whole = environment x.plan.variables (plan_names x.plan) x.resolved_names in
            let seen = environment_at x.plan.variables (plan_names x.plan) x.resolved_names n in
            let same : instance_object q.schema block key (environment x.plan.variables (plan_names x.plan) x.resolved_names) ≡ instance_object q.schema block key (environment_at x.plan.variables (plan_names x.plan) x.resolved_names n) =
            instances_local expressions_local q.schema block key whole seen (sees_refers n block meant) in
            let beside : object_beside (current records) q.decision ≡ Some t =
            sym (ap (object_unless_refused records) q.decides) ∙ ap (λ (p : Result Tree InstanceFaultView). object_unless_refused records (decision.decision q.schema block.lifecycle records p)) same
            ∙ sym (ap (λ (o : Option SchemaView). option_and_then (λ schema. object_of schema block records seen key) o) q.has) ∙ e in
            elim (made_step q.schema block.lifecycle.ignore_changes records q.is.made t q.decision q.is.changes beside) [
              | inl still ↦
                  let there : option_map (λ (r : RecordView). r.attributes) (current records) ≡ Some t = sym (ap (object_beside (current records)) still) ∙ beside in
                  let untouched : objects n key ≡ prior_object x.plan.prior key (meant_at (plan_names x.plan) n) =
                  keep.left n key need
                  (λ a c applies resource key_is.
                  let step = (q.only a c (addr_is n block a meant c applies resource) key_is).0 in
                  nothing_deposed records a.step (subst (λ (d : DecisionView). Contains (decided_steps records d) a.step) still step) (apply_is_current a.step applies)) in
                  let is : objects n key ≡ t =
                  untouched ∙ ap (prior_object x.plan.prior key) meant
                  ∙ ap (λ (o : Option RecordView). option_map_or {U = Tree} (λ r. r.attributes) o null) (sym (current_known block.addr key x.plan.prior))
                  ∙ object_there (current records) t there in
                  subst (Refines t) (sym is) (Refines-refl t)
              | inr s ↦
                  let done = q.done s.0 s.1 in
                  let refines = keep.planned done.0 t done.1 (ap (x.plan.needs place) done.2.resource ∙ need) (ap planned_object done.2.step ∙ s.2) in
                  subst (λ (k : InstanceKeyView). Refines t (objects n k)) done.2.key_is (subst (λ (m : ℕ). Refines t (objects m done.0.key)) done.2.resource refines)
            ]

    -- ---- all instances

    -- what an instance of what stands at a place stands for in the plan
    abbrev own_object : ℕ → InstanceKeyView → Option Meant → Tree
    own_object n key (Some (a_block b)) = unwrap_or (decided_object x.ms x.plan.prior.resources n b (environment_at x.plan.variables (plan_names x.plan) x.resolved_names n) key) null
    own_object n key _ = null

    -- The same objects for instances of what the resource needs, and for each other one what it stands for in the plan.
    abbrev pub completed : ℕ → InstanceKeyView → Tree
    completed n key = if x.plan.needs place n && is_among (instance_keys (x.plan.shapes n)) key then objects n key else own_object n key (meant_at (plan_names x.plan) n)

    pub completed_same : (n : ℕ) (key : InstanceKeyView) → x.plan.needs place n ≡ true → is_among (instance_keys (x.plan.shapes n)) key ≡ true → completed n key ≡ objects n key
    completed_same n key need among =
        ap (λ (b : Bool). if b then objects n key else own_object n key (meant_at (plan_names x.plan) n)) (and-both (x.plan.needs place n) (is_among (instance_keys (x.plan.shapes n)) key) need among)

    -- to which all that is planned refines
    pub answered : IsAnsweredPlan x.ms x.plan completed x.resolved_names
    answered = record {
      ranked = x.ranked;
      planned = x.solves;
      answered = λ n block key t meant e. by_test n block key t meant e (x.plan.needs place n && is_among (instance_keys (x.plan.shapes n)) key) refl;
    }
      where
        by_test : (n : ℕ) (block : BlockView) (key : InstanceKeyView) (t : Tree) → meant_at (plan_names x.plan) n ≡ Some (a_block block)
            → decided_object x.ms x.plan.prior.resources n block (environment_at x.plan.variables (plan_names x.plan) x.resolved_names n) key ≡ Some t
            → (b : Bool) → (x.plan.needs place n && is_among (instance_keys (x.plan.shapes n)) key) ≡ b → Refines t (if b then objects n key else own_object n key (meant_at (plan_names x.plan) n))
        by_test n block key t meant e true is =
            planned_refines n block key t meant (and-first (x.plan.needs place n) (is_among (instance_keys (x.plan.shapes n)) key) is) (and-second (x.plan.needs place n) (is_among (instance_keys (x.plan.shapes n)) key) is) e
        by_test n block key t meant e false is =
            let own : own_object n key (meant_at (plan_names x.plan) n) ≡ t = ap (own_object n key) meant ∙ ap (λ (o : Option Tree). unwrap_or o null) e in
            subst (Refines t) (sym own) (Refines-refl t)
