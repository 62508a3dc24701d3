-- What was planned refines to what names stand for after an apply that went well.
use Rattle.std.proofs.Common.{◌≡◌, ◌∙◌, inl, inr, ℕ, zero, suc, Bool, true, false, if◌then◌else◌, List, [], ◌∷◌, Option, Some, None, Result, Ok, Err, refl, sym, ap, subst, arith}
use Rattle.std.proofs.lemmas.List.Elements.{Contains-append_cases}
use Rattle.std.specs.List.{AllByRecursion, flat_map}
use Rattle.std.specs.Option.{option_and_then}
use Rattle.std.specs.Prelude.{Contains}
use Rattle.tf_plan_data.specs.Action.{ActionView, StepView, create, update, replacement, replaced, destroyed, deposed_destroyed}
use Rattle.tf_config_address.specs.ResourceAddr.{ResourceAddrView}
use Rattle.tf_config_address.specs.ObjectId.{InstanceKeyView}
use Rattle.tf_plan_object.proofs.Locals.{instances_local}
use Rattle.tf_plan_object.proofs.Named.{instances_named}
use Rattle.tf_plan_object.specs.Instance.{InstanceFaultView, instance_object}
use Rattle.tf_plan_object.specs.Laws.{InstancesGrow}
use Rattle.tf_config_data.specs.Config.{BlockView}
use Rattle.tf_config_data.specs.Names.{Meant, a_block, block_refers, directly_before, meant_at, places, refers_at}
use Rattle.tf_plan_decision.specs.Stage.{all_can_go, decided_object, deciding, object_beside, object_of, object_unless_refused}
use Rattle.tf_plan_decision.specs.Steps.{current_steps, decided_steps, deposed_step}
use Rattle.tf_plan_decision.proofs.Causes.{creates_first, replaces_caused, updates_differ}
use Rattle.tf_plan_object.proofs.KeptGrowing.{updates_grow}
use Rattle.tf_plan_object.proofs.Keeping.{updates_named}
use Rattle.tf_plan_decision.specs.Decision as decision
use Rattle.tf_plan_decision.specs.Decision.{DecisionView, change, current}
use Rattle.tf_plan_object.specs.Kept.{kept_object}
use Rattle.tf_expand_keys.proofs.Refining.{together_grows}
use Rattle.tf_expand_keys.proofs.Seen.{agree_on, same_seen}
use Rattle.tf_expand_keys.specs.StandingLaws.{Grows, HaveGrown, ResolvedNamesGrow}
use Rattle.tf_expand_keys.specs.InstanceKeys.{InstanceKeysView, instance_keys}
use Rattle.tf_expand_keys.specs.Stages.{applying}
use Rattle.tf_expand_keys.specs.Resolved.{ResolvedView, AreResolvedNames, environment, environment_at, result_in, together}
use Rattle.tf_expr_eval.proofs.Locality.{expressions_local}
use Rattle.tf_expr_eval.specs.Environment.{RefinesTo}
use Rattle.tf_expr_eval.specs.Locality.{AgreeOn}
use Rattle.tf_graph.specs.Digraph.{predecessors_of}
use Rattle.tf_graph.specs.Solutions.{seen_by}
use Rattle.tf_plan_order.specs.Members.{is_among}
use Rattle.tf_walk_action.specs.Asked.{asked_by_step, create_of, ignored_by, update_of}
use Rattle.tf_walk_action.specs.Objects.{object_of as answered_of}
use Rattle.tf_walk_action.specs.Outcome.{done_at, objects_by}
use Rattle.tf_plan_planner.proofs.Distinct.{at-contained, in_flat_map}
use Rattle.tf_plan_data.specs.Fits.{is_apply}
use Rattle.tf_plan_data.specs.Plan.{plan_names}
use Rattle.tf_provider_protocol.specs.Meaning.{Asked, schema_in}
use Rattle.tf_provider_protocol.specs.Schema.{SchemaView}
use Rattle.tf_provider_protocol.specs.Verdict.{has_attributes, is_good_verdict, verdict_on_object}
use Rattle.tf_walk_report.specs.Report.{objects_after}
use Rattle.tf_state_data.specs.Record.{RecordView}
use Rattle.tf_value_data.proofs.Order.{Refines-refl, Refines-trans}
use Rattle.tf_value_data.specs.Refinement.{Refines}
use Rattle.tf_value_data.specs.Tree.{Tree}
use Rattle.tf_laws.proofs.After.{IsKept, IsMade, call_at_index, in_deposed, kept_at}
use Rattle.tf_walk_report.proofs.Apart.{apply_is_current}
use Rattle.tf_laws.proofs.Answers.{good_refines}
use Rattle.tf_laws.proofs.Applied.{Applied, setting}
use Rattle.tf_laws.proofs.Declared.{keys_at, records_in}
use Rattle.tf_laws.proofs.Lists.{nothing_in}
use Rattle.tf_laws.proofs.Requested.{requested}
use Rattle.tf_laws.proofs.Stands.{made_resource, made_stands, untouched_stands}
use Rattle.tf_laws.proofs.Still.{together_same}
use Rattle.tf_laws.proofs.Well.{good_object}

-- ---- what is asked beside what was planned

-- an object was asked for, to which what was planned refines
pub record IsGrown (schema : SchemaView) (t : Tree) (asked : Asked) : Type 0 where
  pub wanted : Tree
  pub object : asked.object ≡ Some wanted
  pub refines : Refines t wanted
  pub named : has_attributes schema wanted ≡ true

only_step : (s step : StepView) → Contains (s ∷ []) step → s ≡ step
only_step s step (zero, h, e) = e
only_step s step (suc i, h, e) = absurd (omega (arith, h))

some_same : (t u : Tree) → Some t ≡ Some u → t ≡ u
some_same t u e = cc

asked_object : (r asked : Asked) (t : Tree) → r.object ≡ Some t → ◌≡◌ {A = Result Asked InstanceFaultView} (Ok r) (Ok asked) → asked.object ≡ Some t
asked_object r asked t o e = let same : r ≡ asked = (cc) in sym (ap (λ (x : Asked). x.object) same) ∙ o

module _ (schema : SchemaView) (ignored : List (List ℕ)) (a : ActionView) (planned made t : Tree) (asked : Asked) (grows : Refines planned made) (named : has_attributes schema made ≡ true) where
  by_create : (u : Tree) (step : StepView) → create u ≡ step → u ≡ planned → Some u ≡ Some t → asked_by_step ignored schema a (Ok made) step ≡ Ok asked → IsGrown schema t asked
  by_create u step is same beside e =
      let own = subst (λ (s : StepView). asked_by_step ignored schema a (Ok made) s ≡ Ok asked) (sym is) e in
      record { wanted = made; object = asked_object (create_of a made) asked made refl own; refines = subst (λ (v : Tree). Refines v made) (sym same ∙ some_same u t beside) grows; named = named }

  by_replacement : (u : Tree) (names : List (List ℕ)) (step : StepView) → replacement u names ≡ step → u ≡ planned → Some u ≡ Some t → asked_by_step ignored schema a (Ok made) step ≡ Ok asked → IsGrown schema t asked
  by_replacement u names step is same beside e =
      let own = subst (λ (s : StepView). asked_by_step ignored schema a (Ok made) s ≡ Ok asked) (sym is) e in
      record { wanted = made; object = asked_object (create_of a made) asked made refl own; refines = subst (λ (v : Tree). Refines v made) (sym same ∙ some_same u t beside) grows; named = named }

  by_update : (prior u : Tree) (names : List (List ℕ)) (step : StepView) → update prior u names ≡ step → u ≡ kept_object schema ignored prior planned → Some u ≡ Some t → asked_by_step ignored schema a (Ok made) step ≡ Ok asked → IsGrown schema t asked
  by_update prior u names step is same beside e =
      let own = subst (λ (s : StepView). asked_by_step ignored schema a (Ok made) s ≡ Ok asked) (sym is) e in
      record {
        wanted = kept_object schema ignored prior made;
        object = asked_object (update_of a prior (kept_object schema ignored prior made)) asked (kept_object schema ignored prior made) refl own;
        refines = subst (λ (v : Tree). Refines v (kept_object schema ignored prior made)) (sym same ∙ some_same u t beside) (updates_grow schema ignored prior planned made grows);
        named = updates_named schema ignored prior made named;
      }

  by_current : (o : Option RecordView) (d : DecisionView) (step : StepView) → Contains (current_steps o d) step → is_apply step ≡ true → change schema ignored o planned ≡ d → object_beside o d ≡ Some t
      → asked_by_step ignored schema a (Ok made) step ≡ Ok asked → IsGrown schema t asked
  by_current o decision.nothing step c applies changes beside e = absurd (nothing_in step c)
  by_current o (decision.create u) step c applies changes beside e = by_create u step (only_step (create u) step c) (creates_first schema ignored o planned u changes).1 beside e
  by_current None (decision.update u names) step c applies changes beside e = absurd (nothing_in step c)
  by_current (Some r) (decision.update u names) step c applies changes beside e =
      by_update r.attributes u names step (only_step (update r.attributes u names) step c) (updates_differ schema ignored r planned u names changes).object beside e
  by_current None (decision.replace u names) step c applies changes beside e = absurd (nothing_in step c)
  by_current (Some r) (decision.replace u names) step (zero, h, is) applies changes beside e = by_replacement u names step is (replaces_caused schema ignored r planned u names changes).0 beside e
  by_current (Some r) (decision.replace u names) step (suc zero, h, is) applies changes beside e = let not_applied : false ≡ true = ap is_apply is ∙ applies in absurd (cc)
  by_current (Some r) (decision.replace u names) step (suc (suc i), h, is) applies changes beside e = absurd (omega (arith, h))

  pub asked_grows : (records : List RecordView) (d : DecisionView) (step : StepView) → Contains (decided_steps records d) step → is_apply step ≡ true → change schema ignored (current records) planned ≡ d → object_beside (current records) d ≡ Some t
      → asked_by_step ignored schema a (Ok made) step ≡ Ok asked → IsGrown schema t asked
  asked_grows records d step c applies changes beside e = elim (Contains-append_cases (current_steps (current records) d) (flat_map deposed_step records) step c) [
    | inl front ↦ by_current (current records) d step front applies changes beside e
    | inr rest ↦
        let r = in_flat_map deposed_step records step rest in
        let key = in_deposed r.0.id.deposed r.0.attributes step r.2 in
        let none : None ≡ Some key.0 = sym (apply_is_current step applies) ∙ key.1 in
        absurd (cc)
  ]

-- an object was made where one was asked for
pub was_made : (ignored : List (List ℕ)) (schema : SchemaView) (a : ActionView) (p : Result Tree InstanceFaultView) (step : StepView) (asked : Asked) → is_apply step ≡ true → asked_by_step ignored schema a p step ≡ Ok asked → (t : Tree) × (p ≡ Ok t)
was_made ignored schema a (Ok t) step asked applies e = (t, refl)
was_made ignored schema a (Err why) (create t) asked applies e = absurd (cc)
was_made ignored schema a (Err why) (update prior t names) asked applies e = absurd (cc)
was_made ignored schema a (Err why) (replacement t names) asked applies e = absurd (cc)
was_made ignored schema a (Err why) (replaced prior) asked applies e = absurd (cc)
was_made ignored schema a (Err why) (destroyed prior) asked applies e = absurd (cc)
was_made ignored schema a (Err why) (deposed_destroyed key prior) asked applies e = absurd (cc)

-- ---- the request of a made instance

-- What was asked for a made instance: what its block makes where names stand for what came of all.
pub record IsRequested (x : Applied) (resolved_names : ℕ → ResolvedView) (n : ℕ) (block : BlockView) (key : InstanceKeyView) (kept : IsKept x n block key) (m : IsMade x block key kept.only) : Type 0 where
  pub made : Tree
  pub makes : instance_object kept.by_plan.schema block key (environment x.plan.variables (plan_names x.plan) resolved_names) ≡ Ok made
  pub asked : Asked
  pub asks : asked_by_step block.lifecycle.ignore_changes kept.by_plan.schema m.a (Ok made) m.a.step ≡ Ok asked
  pub well : is_good_verdict (verdict_on_object kept.by_plan.schema asked.object (answered_of (done_at x.done m.k))) ≡ true

module _ (x : Applied) (resolved_names : ℕ → ResolvedView) (solves : AreResolvedNames (applying x.plan.shapes (objects_after x.plan x.done)) x.plan.variables (plan_names x.plan) resolved_names) where
  pub made_requested : (n : ℕ) (block : BlockView) (key : InstanceKeyView) → meant_at (plan_names x.plan) n ≡ Some (a_block block) → (kept : IsKept x n block key) (m : IsMade x block key kept.only) → IsRequested x resolved_names n block key kept m
  made_requested n block key meant kept m =
      let objects = objects_by x.plan (seen_by (done_at x.done) (predecessors_of x.plan.order m.k)) in
      let call = call_at_index x m.k m.a m.at in
      let q = kept.by_plan in
      let own : meant_at (plan_names x.plan) m.a.resource ≡ Some (a_block block) = ap (meant_at (plan_names x.plan)) (made_resource x n block key kept kept.only m) ∙ meant in
      let schemas : Some call.schema ≡ Some q.schema = sym call.has ∙ ap (λ (l : ResourceAddrView). schema_in l.type_name x.ms) m.is.addr_is ∙ q.has in
      let schema_same : call.schema ≡ q.schema = (cc) in
      let request : x.requests objects m.a call.schema ≡ instance_object q.schema block key (environment x.plan.variables (plan_names x.plan) resolved_names) =
      requested x resolved_names solves m.k m.a m.at m.is.applies block call.schema own
      ∙ ap (λ (s : SchemaView). instance_object s block m.a.key (environment x.plan.variables (plan_names x.plan) resolved_names)) schema_same
      ∙ ap (λ (k : InstanceKeyView). instance_object q.schema block k (environment x.plan.variables (plan_names x.plan) resolved_names)) m.is.key_is in
      let ignored : ignored_by (meant_at (plan_names x.plan) m.a.resource) ≡ block.lifecycle.ignore_changes = ap ignored_by own in
      let by_block : asked_by_step block.lifecycle.ignore_changes call.schema m.a (x.requests objects m.a call.schema) m.a.step ≡ Ok call.asked =
      subst (λ (ns : List (List ℕ)). asked_by_step ns call.schema m.a (x.requests objects m.a call.schema) m.a.step ≡ Ok call.asked) ignored call.made in
      let by_request : asked_by_step block.lifecycle.ignore_changes call.schema m.a (instance_object q.schema block key (environment x.plan.variables (plan_names x.plan) resolved_names)) m.a.step ≡ Ok call.asked =
      subst (λ (p : Result Tree InstanceFaultView). asked_by_step block.lifecycle.ignore_changes call.schema m.a p m.a.step ≡ Ok call.asked) request by_block in
      let by_schema : asked_by_step block.lifecycle.ignore_changes q.schema m.a (instance_object q.schema block key (environment x.plan.variables (plan_names x.plan) resolved_names)) m.a.step ≡ Ok call.asked =
      subst (λ (s : SchemaView). asked_by_step block.lifecycle.ignore_changes s m.a (instance_object q.schema block key (environment x.plan.variables (plan_names x.plan) resolved_names)) m.a.step ≡ Ok call.asked) schema_same by_request in
      let made = was_made block.lifecycle.ignore_changes q.schema m.a (instance_object q.schema block key (environment x.plan.variables (plan_names x.plan) resolved_names)) m.a.step call.asked m.is.applies by_schema in
      record {
        made = made.0;
        makes = made.1;
        asked = call.asked;
        asks = subst (λ (p : Result Tree InstanceFaultView). asked_by_step block.lifecycle.ignore_changes q.schema m.a p m.a.step ≡ Ok call.asked) made.1 by_schema;
        well = subst (λ (s : SchemaView). is_good_verdict (verdict_on_object s call.asked.object (answered_of (done_at x.done m.k))) ≡ true) schema_same
            (good_object x.ms x.requests x.plan objects m.a (done_at x.done m.k) call m.is.applies);
      }

  -- ---- names

  -- what a name sees is what its block refers to
  sees_refers : (results : ℕ → ResolvedView) (n : ℕ) (block : BlockView) → meant_at (plan_names x.plan) n ≡ Some (a_block block)
      → AgreeOn (environment x.plan.variables (plan_names x.plan) results) (environment_at x.plan.variables (plan_names x.plan) results n) (block_refers block)
  sees_refers results n block meant =
      agree_on x.plan.variables (plan_names x.plan) results (result_in (seen_by results (directly_before (plan_names x.plan) n))) (block_refers block)
      (subst (λ (m : Option Meant). AllByRecursion (λ b. results b ≡ result_in (seen_by results (directly_before (plan_names x.plan) n)) b) (places (plan_names x.plan) (refers_at m))) meant (same_seen results (directly_before (plan_names x.plan) n)))

  module _ (instances : InstancesGrow) where
    planned_refines : (n : ℕ) (block : BlockView) (key : InstanceKeyView) (t : Tree) → meant_at (plan_names x.plan) n ≡ Some (a_block block) → is_among (keys_at (setting x) n) key ≡ true
        → RefinesTo (environment_at x.plan.variables (plan_names x.plan) x.resolved_names n) (environment_at x.plan.variables (plan_names x.plan) resolved_names n)
        → decided_object x.ms x.plan.prior.resources n block (environment_at x.plan.variables (plan_names x.plan) x.resolved_names n) key ≡ Some t → Refines t (objects_after x.plan x.done n key)
    planned_refines n block key t meant among more e = by_kept (kept_at x n block key meant among)
      where
        by_kept : IsKept x n block key → Refines t (objects_after x.plan x.done n key)
        by_kept kept =
            let q = kept.by_plan in
            let records = records_in (setting x) block key in
            let whole = environment x.plan.variables (plan_names x.plan) x.resolved_names in
            let seen = environment_at x.plan.variables (plan_names x.plan) x.resolved_names n in
            let same : instance_object q.schema block key (environment x.plan.variables (plan_names x.plan) x.resolved_names) ≡ instance_object q.schema block key (environment_at x.plan.variables (plan_names x.plan) x.resolved_names n) =
            instances_local expressions_local q.schema block key whole seen (sees_refers x.resolved_names n block meant) in
            let beside : object_beside (current records) q.decision ≡ Some t =
            sym (ap (object_unless_refused records) q.decides) ∙ ap (λ (p : Result Tree InstanceFaultView). object_unless_refused records (decision.decision q.schema block.lifecycle records p)) same
            ∙ sym (ap (λ (o : Option SchemaView). option_and_then (λ schema. object_of schema block records seen key) o) q.has) ∙ e in
            elim kept.how [
              | inr u ↦
                  let old : Some u.old.attributes ≡ Some t = sym (ap (object_beside (current records)) u.nothing ∙ ap (λ (o : Option RecordView). object_beside o decision.nothing) u.found) ∙ beside in
                  let is : objects_after x.plan x.done n key ≡ t = untouched_stands x n block key q.decision kept.only meant u ∙ some_same u.old.attributes t old in
                  subst (Refines t) (sym is) (Refines-refl t)
              | inl m ↦
                  let r = made_requested n block key meant kept m in
                  let after_same : instance_object q.schema block key (environment x.plan.variables (plan_names x.plan) resolved_names) ≡ instance_object q.schema block key (environment_at x.plan.variables (plan_names x.plan) resolved_names n) =
                  instances_local expressions_local q.schema block key (environment x.plan.variables (plan_names x.plan) resolved_names) (environment_at x.plan.variables (plan_names x.plan) resolved_names n) (sees_refers resolved_names n block meant) in
                  let grows : Refines q.is.made r.made = instances q.schema block key seen (environment_at x.plan.variables (plan_names x.plan) resolved_names n) q.is.made r.made more (sym same ∙ q.is.makes) (sym after_same ∙ r.makes) in
                  let named = instances_named q.schema block key (environment x.plan.variables (plan_names x.plan) resolved_names) r.made r.makes in
                  let step = (q.only m.a (at-contained x.plan.actions m.k m.a m.at) m.is.addr_is m.is.key_is).0 in
                  let grown = asked_grows q.schema block.lifecycle.ignore_changes m.a q.is.made r.made t r.asked grows named records q.decision m.a.step step m.is.applies q.is.changes beside r.asks in
                  let well = subst (λ (o : Option Tree). is_good_verdict (verdict_on_object q.schema o (answered_of (done_at x.done m.k))) ≡ true) grown.object r.well in
                  let answered = good_refines q.schema grown.wanted (answered_of (done_at x.done m.k)) (x.schemas block.addr.type_name q.schema q.has) grown.named well in
                  subst (Refines t) (sym (made_stands x n block key kept kept.only m)) (Refines-trans t grown.wanted (answered_of (done_at x.done m.k)) grown.refines answered)
            ]

    decided_grows : (b : Bool) (shape : InstanceKeysView) (f g : InstanceKeyView → Option Tree) → ((key : InstanceKeyView) (t u : Tree) → is_among (instance_keys shape) key ≡ true → f key ≡ Some t → g key ≡ Some u → Refines t u)
        → Grows (together (if b then Some shape else None) f) (together (Some shape) g)
    decided_grows false shape f g h v w p q = absurd (cc)
    decided_grows true shape f g h v w p q =
        let same = together_same g (λ key. if is_among (instance_keys shape) key then g key else f key) shape (λ key among. sym (ap (λ (b : Bool). if b then g key else f key) among)) in
        together_grows shape f (λ key. if is_among (instance_keys shape) key then g key else f key) (λ key t u a b. by_among key t u a (is_among (instance_keys shape) key) refl b) v w p (sym same ∙ q)
      where
        by_among : (key : InstanceKeyView) (t u : Tree) → f key ≡ Some t → (b : Bool) → is_among (instance_keys shape) key ≡ b → (if b then g key else f key) ≡ Some u → Refines t u
        by_among key t u a true among c = h key t u among a c
        by_among key t u a false among c = subst (Refines t) (some_same t u (sym a ∙ c)) (Refines-refl t)

    -- what names stand for in the plan refines to what they stand for after the apply
    pub grown : ResolvedNamesGrow → HaveGrown x.plan.variables (plan_names x.plan) x.resolved_names resolved_names
    grown grow =
        grow (deciding x.ms x.plan.prior.resources x.plan.shapes) (applying x.plan.shapes (objects_after x.plan x.done)) x.plan.variables (plan_names x.plan) x.resolved_names resolved_names x.ranked x.solves solves
        (λ n block meant more.
        decided_grows (all_can_go x.ms x.plan.prior.resources (x.plan.shapes n) block) (x.plan.shapes n)
        (decided_object x.ms x.plan.prior.resources n block (environment_at x.plan.variables (plan_names x.plan) x.resolved_names n)) (λ key. Some (objects_after x.plan x.done n key))
        (λ key t u among a b. subst (Refines t) (some_same (objects_after x.plan x.done n key) u b) (planned_refines n block key t meant among more a)))
