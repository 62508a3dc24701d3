-- What would be asked by the plan is what was planned.
use Rattle.std.proofs.Common.{◌≡◌, ◌<◌, ◌∙◌, ℕ, zero, suc, Bool, true, false, List, [], ◌∷◌, ◌++◌, length, get_or, Option, Some, None, Result, Ok, Err, refl, sym, ap, subst, arith}
use Rattle.std.specs.List.{AllByRecursion, flat_map}
use Rattle.tf_plan_data.specs.Action.{ActionView, StepView}
use Rattle.tf_plan_object.specs.Instance.{InstanceFaultView, for_each_fault, argument_fault, instance_object}
use Rattle.tf_config_data.specs.Config.{LifecycleView}
use Rattle.tf_config_data.specs.Names.{meant_at}
use Rattle.tf_plan_decision.specs.Steps.{current_steps, decided_steps, deposed_step, destroy_if_deposed}
use Rattle.tf_plan_decision.specs.Decision as decision
use Rattle.tf_plan_decision.specs.Decision.{DecisionView, DecisionFaultView, change, current, decided, unless_prevented, unless_unfit}
use Rattle.tf_plan_decision.specs.Ignored.{with_ignored_changes, ignored_fault}
use Rattle.tf_plan_object.specs.Kept.{kept_object}
use Rattle.tf_plan_decision.specs.Laws.{CreatesAreFirst, ReplacesHaveACause, UpdatesDiffer}
use Rattle.tf_plan_decision.specs.Prior.{PriorFaultView, first_unfit}
use Rattle.tf_expand_keys.specs.Resolved.{environment}
use Rattle.tf_plan_data.specs.Plan.{plan_names}
use Rattle.tf_provider_protocol.specs.Meaning.{Asked}
use Rattle.tf_provider_protocol.specs.Schema.{SchemaView}
use Rattle.tf_state_data.specs.Record.{RecordView}
use Rattle.tf_value_data.specs.Tree.{Tree}
use Rattle.tf_laws.specs.AskingLaws.{PlannedObjectsAreAsked, planned_object}
use Rattle.tf_walk_action.specs.Asked.{asked_by_step, create_of, destroy_of, ignored_by, update_of}

-- ---- what was decided

pub fit_decided : (o : Option PriorFaultView) (r : Result DecisionView DecisionFaultView) (d : DecisionView) → unless_unfit o r ≡ Ok d → r ≡ Ok d
fit_decided None r d e = e
fit_decided (Some fault) r d e = absurd (cc)

pub not_prevented : (prevents : Bool) (x d : DecisionView) → unless_prevented prevents x ≡ Ok d → x ≡ d
not_prevented false x d e = cc
not_prevented true decision.nothing d e = cc
not_prevented true (decision.create t) d e = cc
not_prevented true (decision.update t names) d e = cc
not_prevented true (decision.replace t names) d e = absurd (cc)

pub changed : (schema : SchemaView) (lifecycle : LifecycleView) (prior : Option RecordView) (q : Result Tree InstanceFaultView) (d : DecisionView) → decided schema lifecycle prior q ≡ Ok d
    → (t : Tree) × (q ≡ Ok t) × (change schema lifecycle.ignore_changes prior t ≡ d)
changed schema lifecycle prior (Ok t) d e = (t, refl, not_prevented lifecycle.prevent_destroy (change schema lifecycle.ignore_changes prior t) d e)
changed schema lifecycle prior (Err why) d e = absurd (cc)

pub heeded : (o : Option (List ℕ)) (p : Result Tree InstanceFaultView) (t : Tree) → with_ignored_changes o p ≡ Ok t → p ≡ Ok t
heeded None p t e = e
heeded (Some name) (Ok u) t e = absurd (cc)
heeded (Some name) (Err (for_each_fault why)) t e = absurd (cc)
heeded (Some name) (Err (argument_fault found)) t e = absurd (cc)

-- a decision is a change by what the block makes of the instance
pub decision_is : (schema : SchemaView) (lifecycle : LifecycleView) (records : List RecordView) (p : Result Tree InstanceFaultView) (d : DecisionView) → decision.decision schema lifecycle records p ≡ Ok d
    → (t : Tree) × (p ≡ Ok t) × (change schema lifecycle.ignore_changes (current records) t ≡ d)
decision_is schema lifecycle records p d e =
    let q = with_ignored_changes (ignored_fault schema lifecycle.ignore_changes) p in
    let fit = fit_decided (first_unfit schema records) (decided schema lifecycle (current records) q) d e in
    let found = changed schema lifecycle (current records) q d fit in
    (found.0, heeded (ignored_fault schema lifecycle.ignore_changes) p found.0 found.1, found.2)

-- ---- its steps

-- what a step would ask for is what it is planned with
abbrev IsSame : List (List ℕ) → SchemaView → ActionView → Tree → StepView → Type 0
IsSame ignored schema a t step = (planned : Asked) → asked_by_step ignored schema a (Ok t) step ≡ Ok planned → planned.object ≡ planned_object step

object_is : (r planned : Asked) (o : Option Tree) → r.object ≡ o → ◌≡◌ {A = Result Asked InstanceFaultView} (Ok r) (Ok planned) → planned.object ≡ o
object_is r planned o is e = let same : r ≡ planned = (cc) in sym (ap (λ (x : Asked). x.object) same) ∙ is

module _ (creates : CreatesAreFirst) (updates : UpdatesDiffer) (replaces : ReplacesHaveACause) (schema : SchemaView) (ignored : List (List ℕ)) (a : ActionView) (t : Tree) where
  current_same : (prior : Option RecordView) (d : DecisionView) → change schema ignored prior t ≡ d → AllByRecursion (IsSame ignored schema a t) (current_steps prior d)
  current_same prior decision.nothing e = tt
  current_same prior (decision.create u) e = ((λ planned x. object_is (create_of a t) planned (Some u) (ap (λ v. Some v) (sym (creates schema ignored prior t u e).1)) x), tt)
  current_same None (decision.update u names) e = tt
  current_same (Some r) (decision.update u names) e =
      let is = updates schema ignored r t u names e in
      ((λ planned x. object_is (update_of a r.attributes (kept_object schema ignored r.attributes t)) planned (Some u) (ap (λ v. Some v) (sym is.object)) x), tt)
  current_same None (decision.replace u names) e = tt
  current_same (Some r) (decision.replace u names) e =
      let is = replaces schema ignored r t u names e in
      ((λ planned x. object_is (create_of a t) planned (Some u) (ap (λ v. Some v) (sym is.0)) x), ((λ planned x. object_is (destroy_of a None r.attributes) planned None refl x), tt))

  all_append : {A : Type 0} (P : A → Type 0) (xs ys : List A) → AllByRecursion P xs → AllByRecursion P ys → AllByRecursion P (xs ++ ys)
  all_append P [] ys h k = k
  all_append P (x ∷ xs) ys h k = (h.0, all_append P xs ys h.1 k)

  one_deposed : (key : Option (List ℕ)) (prior : Tree) → AllByRecursion (IsSame ignored schema a t) (destroy_if_deposed key prior)
  one_deposed None prior = tt
  one_deposed (Some key) prior = ((λ planned x. object_is (destroy_of a (Some key) prior) planned None refl x), tt)

  deposed_same : (records : List RecordView) → AllByRecursion (IsSame ignored schema a t) (flat_map deposed_step records)
  deposed_same [] = tt
  deposed_same (r ∷ records) = all_append (IsSame ignored schema a t) (deposed_step r) (flat_map deposed_step records) (one_deposed r.id.deposed r.attributes) (deposed_same records)

  steps_same : (records : List RecordView) (d : DecisionView) → change schema ignored (current records) t ≡ d → AllByRecursion (IsSame ignored schema a t) (decided_steps records d)
  steps_same records d e =
      all_append (IsSame ignored schema a t) (current_steps (current records) d) (flat_map deposed_step records) (current_same (current records) d e) (deposed_same records)

at_place : {A : Type 0} (P : A → Type 0) (xs : List A) (x : A) (i : ℕ) → i < length xs → get_or xs i x ≡ x → AllByRecursion P xs → P x
at_place P [] x i h e all = absurd (omega (arith, h))
at_place P (y ∷ ys) x zero h e all = subst P e all.0
at_place P (y ∷ ys) x (suc i) h e all = at_place P ys x i (omega (arith, h)) e all.1

pub planned_asked : CreatesAreFirst → UpdatesDiffer → ReplacesHaveACause → PlannedObjectsAreAsked
planned_asked creates updates replaces plan resolved_names block a schema records d planned meant decides held asks =
    let p = instance_object schema block a.key (environment plan.variables (plan_names plan) resolved_names) in
    let found = decision_is schema block.lifecycle records p d decides in
    let ignored : ignored_by (meant_at (plan_names plan) a.resource) ≡ block.lifecycle.ignore_changes = ap ignored_by meant in
    let by_block : asked_by_step block.lifecycle.ignore_changes schema a p a.step ≡ Ok planned =
    subst (λ (names : List (List ℕ)). asked_by_step names schema a p a.step ≡ Ok planned) ignored asks in
    let by_made : asked_by_step block.lifecycle.ignore_changes schema a (Ok found.0) a.step ≡ Ok planned =
    subst (λ (q : Result Tree InstanceFaultView). asked_by_step block.lifecycle.ignore_changes schema a q a.step ≡ Ok planned) found.1 by_block in
    at_place (IsSame block.lifecycle.ignore_changes schema a found.0) (decided_steps records d) a.step held.0 held.1 held.2
    (steps_same creates updates replaces schema block.lifecycle.ignore_changes a found.0 records d found.2) planned by_made
