-- The state after an apply that went well: each instance of the configuration has its current object alone, and nothing else is
-- known.
use Rattle.std.proofs.Common.{◌≡◌, ◌∙◌, ◌<◌, ◌&&◌, ◌⊎◌, inl, inr, ℕ, zero, suc, Bool, true, false, cond, List, [], ◌∷◌, ◌++◌, Option, Some, None, length, map, option_map, refl, sym, ap, subst, arith}
use Rattle.std.proofs.lemmas.List.Elements.{Contains-append_cases, Contains-append_left, Contains-append_right}
use Rattle.std.proofs.lemmas.Option.{slice_get-get_or}
use Rattle.std.specs.List.{AllByRecursion, filter_map, flat_map}
use Rattle.std.specs.Option.{option_eq, option_map_or, option_or}
use Rattle.std.specs.Prelude.{Contains, slice_get}
use Rattle.std.specs.Str.{bytes_eq}
use Rattle.tf_plan_data.specs.Action.{ActionView, StepView, create, update, replacement, replaced, deposed_destroyed}
use Rattle.tf_walk_report.specs.Change.{applies_in, changes_in, destroys_in}
use Rattle.tf_walk_buffers.specs.Head.{IsKeyFor, given_with, is_replacement}
use Rattle.tf_config_address.specs.ResourceAddr.{ResourceAddrView}
use Rattle.tf_config_address.specs.ObjectId.{InstanceKeyView, ObjectIdView}
use Rattle.tf_config_data.specs.Config.{BlockView}
use Rattle.tf_config_data.specs.Names.{a_block, meant_at}
use Rattle.tf_plan_decision.specs.Stage.{records_at}
use Rattle.tf_plan_decision.specs.Steps.{current_steps, decided_steps, deposed_step, destroy_if_deposed}
use Rattle.tf_plan_decision.specs.Decision as decision
use Rattle.tf_plan_decision.specs.Decision.{DecisionView, change, current}
use Rattle.tf_expand_keys.proofs.Refining.{followed}
use Rattle.tf_graph.specs.Digraph.{predecessors_of}
use Rattle.tf_graph.specs.Solutions.{seen_by}
use Rattle.tf_plan_order.specs.Members.{is_among, is_of, records_of}
use Rattle.tf_state_next.proofs.Changing.{found_addr}
use Rattle.tf_state_next.specs.Events.{ApplyView, apply_of_instance, as_apply, left_of_deposed, left_of_object, nothing_given}
use Rattle.tf_walk_action.specs.Objects.{object_of}
use Rattle.tf_walk_action.specs.Outcome.{ActionResultView, done_at, is_good, objects_by}
use Rattle.tf_plan_planner.proofs.Distinct.{at-contained, in_flat_map}
use Rattle.tf_plan_data.specs.Fits.{deposed_key, is_apply}
use Rattle.tf_plan_data.specs.Plan.{plan_names}
use Rattle.tf_provider_protocol.specs.Meaning.{Meaning}
use Rattle.tf_provider_protocol.specs.Schema.{SchemaView}
use Rattle.tf_walk_buffers.specs.MetadataUpdates.{metadata_updates}
use Rattle.tf_state_next.proofs.Places.{found_id}
use Rattle.tf_state_next.specs.After.{after_destroy, current_after, deposed_anew, destroy_under, object_at, record_of_saved, renewed}
use Rattle.tf_state_next.specs.Ends.{ApplyResultView, RecordInputView, LeftView, gone, saved, unplanned, unwanted}
use Rattle.tf_state_data.specs.Record.{RecordView}
use Rattle.tf_state_data.specs.Resource.{ResourceView, record_at}
use Rattle.tf_state_data.specs.State.{record_in, resource_at}
use Rattle.tf_value_data.specs.Tree.{Tree}
use Rattle.tf_laws.proofs.Applied.{Applied, setting}
use Rattle.tf_laws.proofs.Declared.{IsDeclaredAt, IsDestroyed, IsPlannedAt, apply_declared, found_contains, keys_at, known_object, planned_at, records_in}
use Rattle.tf_laws.proofs.Events.{AreDoneWell, IsApplied, IsApplyAt, deposed_left, left_in, wanted_in}
use Rattle.tf_laws.proofs.Lists.{got_within, nothing_in, to_filter, to_flat_map}
use Rattle.tf_laws.proofs.Members.{same_key}
use Rattle.tf_laws.proofs.OneRecord.{current_known}
use Rattle.tf_laws.proofs.Well.{IsDoneWell, IsGoodCall, done_well, good_call}

pub at_index : {A : Type 0} (xs : List A) (a : A) → Contains xs a → (k : ℕ) × (slice_get xs k ≡ Some a)
at_index xs a c = (c.0, slice_get-get_or xs c.0 a c.1 ∙ ap Some c.2)

good_at : (done : List ActionResultView) (k : ℕ) → AllByRecursion (λ d. is_good d ≡ true) done → k < length done → is_good (done_at done k) ≡ true
good_at [] k all h = absurd (omega (arith, h))
good_at (d ∷ done) zero all h = all.0
good_at (d ∷ done) (suc k) all h = good_at done k all.1 (omega (arith, h))

well_from : (ms : List Meaning) (actions : List ActionView) (done : List ActionResultView) → length done ≡ length actions → ((k : ℕ) (a : ActionView) → slice_get actions k ≡ Some a → IsDoneWell ms a (done_at done k)) → AreDoneWell ms actions done
well_from ms [] done e h = tt
well_from ms (a ∷ actions) [] e h = absurd (omega (arith, e))
well_from ms (a ∷ actions) (d ∷ done) e h = (h 0 a refl, well_from ms actions done (omega (arith, e)) (λ k b at. h (suc k) b at))

-- ---- records

gone_none : (o : Option RecordView) → after_destroy (Some gone) o ≡ None
gone_none None = refl
gone_none (Some r) = refl

none_after : (l : Option LeftView) → after_destroy l None ≡ None
none_after None = refl
none_after (Some l) = refl

-- what isn't saved keeps what was left of the current object, and makes no deposed one
record Keeps (w : Option ApplyView) (key : InstanceKeyView) : Type 0 where
  made_of : RecordView → RecordView
  attributes : (r : RecordView) → (made_of r).attributes ≡ r.attributes
  tainted : (r : RecordView) → (made_of r).tainted ≡ r.tainted
  version : (r : RecordView) → (made_of r).schema_version ≡ r.schema_version
  current : (left : Option RecordView) → current_after (option_map_or (λ a. a.given) w (nothing_given key)) (option_map_or (λ a. a.applied) w unwanted) left ≡ option_map made_of left
  deposed : (left : Option RecordView) (k : List ℕ) → deposed_anew (option_map_or (λ a. a.given) w (nothing_given key)) (option_map_or (λ a. a.applied) w unwanted) left k ≡ None

itself : (left : Option RecordView) → left ≡ option_map (λ r. r) left
itself None = refl
itself (Some r) = refl

keeps : (addr : ResourceAddrView) (key : InstanceKeyView) (w : Option ApplyView) → (w ≡ None) ⊎ ((y : ApplyView) × (w ≡ Some y) × (y.applied ≡ unplanned)) → Keeps w key
keeps addr key w (inl none) = record {
  made_of = λ r. r;
  attributes = λ r. refl;
  tainted = λ r. refl;
  version = λ r. refl;
  current = λ left. ap (λ (o : Option ApplyView). current_after (option_map_or (λ a. a.given) o (nothing_given key)) (option_map_or (λ a. a.applied) o unwanted) left) none ∙ itself left;
  deposed = λ left k. ap (λ (o : Option ApplyView). deposed_anew (option_map_or (λ a. a.given) o (nothing_given key)) (option_map_or (λ a. a.applied) o unwanted) left k) none;
}
keeps addr key w (inr y) = record {
  made_of = renewed y.0.given.dependencies y.0.given.create_before_destroy;
  attributes = λ r. refl;
  tainted = λ r. refl;
  version = λ r. refl;
  current = λ left.
      ap (λ (o : Option ApplyView). current_after (option_map_or (λ a. a.given) o (nothing_given key)) (option_map_or (λ a. a.applied) o unwanted) left) y.1
      ∙ ap (λ (v : ApplyResultView). current_after y.0.given v left) y.2;
  deposed = λ left k.
      ap (λ (o : Option ApplyView). deposed_anew (option_map_or (λ a. a.given) o (nothing_given key)) (option_map_or (λ a. a.applied) o unwanted) left k) y.1
      ∙ ap (λ (v : ApplyResultView). deposed_anew y.0.given v left k) y.2;
}

-- an object that was current becomes deposed only where something is left of it, and a key is given for it
none_deposed : (g : RecordInputView) (s : Tree × Bool) (left : Option RecordView) (k : List ℕ) → (g.deposed_key ≡ None) ⊎ (left ≡ None) → deposed_anew g (saved s) left k ≡ None
none_deposed g s left k (inl none) = ap (λ (o : Option (List ℕ)). cond (option_eq bytes_eq o (Some k)) (option_map (λ (r : RecordView). record r { id = object_at r.id.key (Some k) }) left) None) none
none_deposed g s left k (inr none) = ap (λ (o : Option RecordView). deposed_anew g (saved s) o k) none ∙ either (option_eq bytes_eq g.deposed_key (Some k))
  where
    either : (b : Bool) → ◌≡◌ {A = Option RecordView} (cond b None None) None
    either true = refl
    either false = refl

-- ---- steps of a decision

replace_has : (records : List RecordView) (t : Tree) (names : List (List ℕ)) (r : RecordView) → current records ≡ Some r → Contains (decided_steps records (decision.replace t names)) (replaced r.attributes)
replace_has records t names r e =
    subst (λ (o : Option RecordView). Contains (current_steps o (decision.replace t names) ++ flat_map deposed_step records) (replaced r.attributes)) (sym e) (1, omega arith, refl)

-- of a decision that makes or changes something a step does
some_apply : (schema : SchemaView) (ignored : List (List ℕ)) (records : List RecordView) (made : Tree) (d : DecisionView) → change schema ignored (current records) made ≡ d
    → (d ≡ decision.nothing) ⊎ ((s : StepView) × Contains (decided_steps records d) s × (is_apply s ≡ true))
some_apply schema ignored records made d e = by_current (current records) refl d e
  where
    by_current : (o : Option RecordView) → current records ≡ o → (c : DecisionView) → change schema ignored o made ≡ c → (c ≡ decision.nothing) ⊎ ((s : StepView) × Contains (decided_steps records c) s × (is_apply s ≡ true))
    by_current o is decision.nothing f = inl refl
    by_current o is (decision.create t) f = inr (create t, Contains-append_left (current_steps (current records) (decision.create t)) (flat_map deposed_step records) (create t) (0, omega arith, refl), refl)
    by_current None is (decision.update t names) f = absurd (cc)
    by_current (Some r) is (decision.update t names) f =
        inr (update r.attributes t names, subst (λ (x : Option RecordView). Contains (current_steps x (decision.update t names) ++ flat_map deposed_step records) (update r.attributes t names)) (sym is) (0, omega arith, refl), refl)
    by_current None is (decision.replace t names) f = absurd (cc)
    by_current (Some r) is (decision.replace t names) f =
        inr (replacement t names, subst (λ (x : Option RecordView). Contains (current_steps x (decision.replace t names) ++ flat_map deposed_step records) (replacement t names)) (sym is) (0, omega arith, refl), refl)

pub in_deposed : (o : Option (List ℕ)) (t : Tree) (s : StepView) → Contains (destroy_if_deposed o t) s → (k : List ℕ) × (deposed_key s ≡ Some k) × (is_replacement s ≡ false)
in_deposed None t s c = absurd (nothing_in s c)
in_deposed (Some k) t s c = (k, key_of s c, not_new s c)
  where
    only : (x : StepView) → Contains (deposed_destroyed k t ∷ []) x → deposed_destroyed k t ≡ x
    only x (zero, h, e) = e
    only x (suc i, h, e) = absurd (omega (arith, h))

    key_of : (x : StepView) → Contains (deposed_destroyed k t ∷ []) x → deposed_key x ≡ Some k
    key_of x d = ap deposed_key (sym (only x d))

    not_new : (x : StepView) → Contains (deposed_destroyed k t ∷ []) x → is_replacement x ≡ false
    not_new x d = ap is_replacement (sym (only x d))

-- the steps of nothing are about deposed objects
pub nothing_deposed : (records : List RecordView) (s : StepView) → Contains (decided_steps records decision.nothing) s → deposed_key s ≡ None → ⊥
nothing_deposed records s c none =
    let r = in_flat_map deposed_step records s c in
    let key = in_deposed r.0.id.deposed r.0.attributes s r.2 in
    let no : Some key.0 ≡ None = sym key.1 ∙ none in
    absurd (cc)

-- a replacement is half of a replace
replacing : (records : List RecordView) (d : DecisionView) (s : StepView) → Contains (decided_steps records d) s → is_replacement s ≡ true → (r : RecordView) × (current records ≡ Some r) × Contains (decided_steps records d) (replaced r.attributes)
replacing records d s c new = by_current (current records) refl d c
  where
    late : (e : DecisionView) → Contains (flat_map deposed_step records) s → (r : RecordView) × (current records ≡ Some r) × Contains (decided_steps records e) (replaced r.attributes)
    late e f =
        let r = in_flat_map deposed_step records s f in
        let no = (in_deposed r.0.id.deposed r.0.attributes s r.2).2 in
        absurd (cc)

    only : (x : StepView) → Contains (x ∷ []) s → x ≡ s
    only x (zero, h, e) = e
    only x (suc i, h, e) = absurd (omega (arith, h))

    not_that : (x : StepView) → is_replacement x ≡ false → Contains (x ∷ []) s → ⊥
    not_that x old f = let is : is_replacement x ≡ true = ap is_replacement (only x f) ∙ new in absurd (cc)

    by_current : (o : Option RecordView) → current records ≡ o → (e : DecisionView) → Contains (decided_steps records e) s → (r : RecordView) × (current records ≡ Some r) × Contains (decided_steps records e) (replaced r.attributes)
    by_current o is e f = elim (Contains-append_cases (current_steps (current records) e) (flat_map deposed_step records) s f) [
      | inl front ↦ by_step o is e (subst (λ (y : Option RecordView). Contains (current_steps y e) s) is front)
      | inr rest ↦ late e rest
    ]
      where
        by_step : (y : Option RecordView) → current records ≡ y → (g : DecisionView) → Contains (current_steps y g) s → (r : RecordView) × (current records ≡ Some r) × Contains (decided_steps records g) (replaced r.attributes)
        by_step y at decision.nothing h = absurd (nothing_in s h)
        by_step y at (decision.create t) h = absurd (not_that (create t) refl h)
        by_step None at (decision.update t names) h = absurd (nothing_in s h)
        by_step (Some r) at (decision.update t names) h = absurd (not_that (update r.attributes t names) refl h)
        by_step None at (decision.replace t names) h = absurd (nothing_in s h)
        by_step (Some r) at (decision.replace t names) h = (r, at, replace_has records t names r at)

-- ---- what is known of an instance of the configuration

-- an action made or changed its object
pub record IsMade (x : Applied) (block : BlockView) (key : InstanceKeyView) (r : RecordView) : Type 0 where
  pub k : ℕ
  pub a : ActionView
  pub at : slice_get x.plan.actions k ≡ Some a
  pub is : IsApplyAt block.addr key a
  pub attributes : r.attributes ≡ object_of (done_at x.done k)
  pub version : r.schema_version ≡ a.version

-- no action touched it
pub record IsUntouched (x : Applied) (block : BlockView) (key : InstanceKeyView) (d : DecisionView) (r : RecordView) : Type 0 where
  pub nothing : d ≡ decision.nothing
  pub old : RecordView
  pub found : current (records_in (setting x) block key) ≡ Some old
  pub attributes : r.attributes ≡ old.attributes
  pub tainted : r.tainted ≡ old.tainted
  pub version : r.schema_version ≡ old.schema_version
  pub none : (k : ℕ) (a : ActionView) → slice_get x.plan.actions k ≡ Some a → IsApplyAt block.addr key a → ⊥

pub record IsKept (x : Applied) (n : ℕ) (block : BlockView) (key : InstanceKeyView) : Type 0 where
  pub by_plan : IsPlannedAt (setting x) n block key
  pub only : RecordView
  pub there : record_in block.addr (object_at key None) x.after ≡ Some only
  pub untainted : only.tainted ≡ false
  pub alone : (k : List ℕ) → record_in block.addr (object_at key (Some k)) x.after ≡ None
  pub how : IsMade x block key only ⊎ IsUntouched x block key by_plan.decision only

not_tainted : (schema : SchemaView) (ignored : List (List ℕ)) (r : RecordView) (made : Tree) → change schema ignored (Some r) made ≡ decision.nothing → r.tainted ≡ false
not_tainted schema ignored r made e = by_test r.tainted refl
  where
    by_test : (b : Bool) → r.tainted ≡ b → r.tainted ≡ false
    by_test false is = is
    by_test true is =
        let no : decision.replace made [] ≡ decision.nothing = sym (ap (λ (c : Bool). cond c (decision.replace made []) (decision.beside schema ignored r.attributes made)) is) ∙ e in
        absurd (cc)

module _ (x : Applied) where
  pub call_at_index : (k : ℕ) (a : ActionView) → slice_get x.plan.actions k ≡ Some a → IsGoodCall x.ms x.requests x.plan (objects_by x.plan (seen_by (done_at x.done) (predecessors_of x.plan.order k))) a (done_at x.done k)
  call_at_index k a at =
      let inside : k < length x.plan.actions = got_within x.plan.actions k a at in
      let long : length x.done ≡ length x.plan.actions = x.outcomes.all in
      good_call x.ms x.requests x.plan x.excuses x.done k a x.outcomes inside at (good_at x.done k x.good (omega (arith, inside, long)))

  pub well : AreDoneWell x.ms x.plan.actions x.done
  well = well_from x.ms x.plan.actions x.done x.outcomes.all (λ k a at. done_well x.ms x.requests x.plan (objects_by x.plan (seen_by (done_at x.done) (predecessors_of x.plan.order k))) a (done_at x.done k) (call_at_index k a at))

  destroyed_gone : (addr : ResourceAddrView) (id : ObjectIdView) → IsDestroyed (setting x) addr id → left_of_object addr id (destroys_in (changes_in x.ms x.heads x.done)) ≡ Some gone
  destroyed_gone addr id d = elim (left_in x.ms x.plan addr id x.plan.actions x.heads x.done x.are_heads well) [
    | inl f ↦ f.3
    | inr none ↦ absurd (none.0 d.a d.there (record { destroys = d.destroys; addr_is = d.addr_is; object_is = λ i. record { key = d.key_is i; deposed = d.deposed i } }))
  ]

  -- each deposed object is destroyed
  deposed_object : (addr : ResourceAddrView) (key : InstanceKeyView) (k : List ℕ) (y : RecordView) → record_in addr (object_at key (Some k)) x.plan.prior ≡ Some y → IsDestroyed (setting x) addr (object_at key (Some k))
  deposed_object addr key k y e =
      let id : ObjectIdView = object_at key (Some k) in
      let r = followed (resource_at addr x.plan.prior.resources) (λ (r : ResourceView). record_at (object_at key (Some k)) r.records) y e in
      let addr_is = found_addr addr x.plan.prior.resources r.0 r.1 in
      let id_is : y.id ≡ object_at key (Some k) = found_id (object_at key (Some k)) y r.0.records r.2 in
      let own : resource_at r.0.addr x.plan.prior.resources ≡ Some r.0 = ap (λ (l : ResourceAddrView). resource_at l x.plan.prior.resources) addr_is ∙ r.1 in
      let there : Contains r.0.records y = found_contains _ r.0.records y r.2 in
      elim (known_object (setting x) r.0 y own there) [
        | inr d ↦
            subst (λ (i : ObjectIdView). IsDestroyed (setting x) addr i) id_is (subst (λ (l : ResourceAddrView). IsDestroyed (setting x) l y.id) addr_is d)
        | inl decl ↦
            let q = planned_at (setting x) decl.n decl.block y.id.key decl.meant decl.among in
            let records = records_in (setting x) decl.block y.id.key in
            let resource : resource_at decl.block.addr x.plan.prior.resources ≡ Some r.0 = ap (λ (l : ResourceAddrView). resource_at l x.plan.prior.resources) decl.own ∙ own in
            let listed : Contains (records_at decl.block.addr x.plan.prior.resources) y = subst (λ (o : Option ResourceView). Contains (option_map_or (λ z. z.records) o []) y) (sym resource) there in
            let mine : Contains (records_of y.id.key (records_at decl.block.addr x.plan.prior.resources)) y = to_filter (is_of y.id.key) (records_at decl.block.addr x.plan.prior.resources) y listed (same_key y.id.key) in
            let s : StepView = deposed_destroyed k y.attributes in
            let by_key : Contains (deposed_step y) s = subst (λ (o : Option (List ℕ)). Contains (destroy_if_deposed o y.attributes) s) (sym (ap (λ (i : ObjectIdView). i.deposed) id_is)) (0, omega arith, refl) in
            let step : Contains (decided_steps records q.decision) s =
            Contains-append_right (current_steps (current records) q.decision) (flat_map deposed_step records) s (to_flat_map deposed_step records y s mine by_key) in
            let done = q.done s step in
            record {
              a = done.0;
              there = done.1;
              addr_is = done.2.addr ∙ decl.own ∙ addr_is;
              key_is = done.2.key_is ∙ ap (λ (i : ObjectIdView). i.key) id_is;
              destroys = ap is_apply done.2.step;
              deposed = ap deposed_key done.2.step;
            }
      ]

  -- so nothing is left of it
  deposed_gone : (addr : ResourceAddrView) (key : InstanceKeyView) (k : List ℕ)
      → after_destroy (destroy_under k (filter_map (left_of_deposed addr key) (destroys_in (changes_in x.ms x.heads x.done)))) (record_in addr (object_at key (Some k)) x.plan.prior) ≡ None
  deposed_gone addr key k = by_record (record_in addr (object_at key (Some k)) x.plan.prior) refl
    where
      by_record : (o : Option RecordView) → record_in addr (object_at key (Some k)) x.plan.prior ≡ o → after_destroy (destroy_under k (filter_map (left_of_deposed addr key) (destroys_in (changes_in x.ms x.heads x.done)))) (record_in addr (object_at key (Some k)) x.plan.prior) ≡ None
      by_record None e = ap (after_destroy (destroy_under k (filter_map (left_of_deposed addr key) (destroys_in (changes_in x.ms x.heads x.done))))) e ∙ none_after (destroy_under k (filter_map (left_of_deposed addr key) (destroys_in (changes_in x.ms x.heads x.done))))
      by_record (Some y) e =
          ap (λ (l : Option LeftView). after_destroy l (record_in addr (object_at key (Some k)) x.plan.prior))
          (deposed_left addr key k (destroys_in (changes_in x.ms x.heads x.done)) ∙ destroyed_gone addr (object_at key (Some k)) (deposed_object addr key k y e))
          ∙ gone_none (record_in addr (object_at key (Some k)) x.plan.prior)

  -- ---- by what came of the instance

  abbrev pub told : ResourceAddrView → InstanceKeyView → Option ApplyView
  told addr key = apply_of_instance addr key (applies_in (changes_in x.ms x.heads x.done) ++ map as_apply (metadata_updates x.plan))

  abbrev pub left_over : ResourceAddrView → InstanceKeyView → Option RecordView
  left_over addr key = after_destroy (left_of_object addr (object_at key None) (destroys_in (changes_in x.ms x.heads x.done))) (record_in addr (object_at key None) x.plan.prior)

  pub current_is : (addr : ResourceAddrView) (key : InstanceKeyView)
      → record_in addr (object_at key None) x.after ≡ current_after (option_map_or (λ a. a.given) (told addr key) (nothing_given key)) (option_map_or (λ a. a.applied) (told addr key) unwanted) (left_over addr key)
  current_is addr key = x.state.records addr (object_at key None)

  deposed_is : (addr : ResourceAddrView) (key : InstanceKeyView) (k : List ℕ) → record_in addr (object_at key (Some k)) x.after
      ≡ option_or (deposed_anew (option_map_or (λ a. a.given) (told addr key) (nothing_given key)) (option_map_or (λ a. a.applied) (told addr key) unwanted) (left_over addr key) k)
      (after_destroy (destroy_under k (filter_map (left_of_deposed addr key) (destroys_in (changes_in x.ms x.heads x.done)))) (record_in addr (object_at key (Some k)) x.plan.prior))
  deposed_is addr key k = x.state.records addr (object_at key (Some k))

  -- where no object becomes deposed, none is
  none_there : (addr : ResourceAddrView) (key : InstanceKeyView) (k : List ℕ)
      → deposed_anew (option_map_or (λ a. a.given) (told addr key) (nothing_given key)) (option_map_or (λ a. a.applied) (told addr key) unwanted) (left_over addr key) k ≡ None
      → record_in addr (object_at key (Some k)) x.after ≡ None
  none_there addr key k none =
      deposed_is addr key k
      ∙ ap (λ (o : Option RecordView). option_or o (after_destroy (destroy_under k (filter_map (left_of_deposed addr key) (destroys_in (changes_in x.ms x.heads x.done)))) (record_in addr (object_at key (Some k)) x.plan.prior))) none
      ∙ deposed_gone addr key k

  index_of : (a : ActionView) → Contains x.plan.actions a → (k : ℕ) × (slice_get x.plan.actions k ≡ Some a)
  index_of a c = at_index x.plan.actions a c

  -- an action made or changed the object
  made_kept : (n : ℕ) (block : BlockView) (key : InstanceKeyView) → IsPlannedAt (setting x) n block key → IsApplied x.plan block.addr key x.plan.actions x.done (told block.addr key) → IsKept x n block key
  made_kept n block key q w =
      let given = given_with x.plan w.a w.deposed in
      let object = object_of (done_at x.done w.k) in
      let kept : record_in block.addr (object_at key None) x.after ≡ Some (record_of_saved given (object, false)) =
      current_is block.addr key ∙ ap (λ (o : Option ApplyView). current_after (option_map_or (λ a. a.given) o (nothing_given key)) (option_map_or (λ a. a.applied) o unwanted) (left_over block.addr key)) w.found in
      record {
        by_plan = q;
        only = record_of_saved given (object, false);
        there = kept;
        untainted = refl;
        alone = λ k.
            none_there block.addr key k
            (ap (λ (o : Option ApplyView). deposed_anew (option_map_or (λ a. a.given) o (nothing_given key)) (option_map_or (λ a. a.applied) o unwanted) (left_over block.addr key) k) w.found
            ∙ none_deposed given (object, false) (left_over block.addr key) k (no_key w.deposed w.key_for));
        how = inl (record { k = w.k; a = w.a; at = w.at; is = w.is; attributes = refl; version = refl });
      }
    where
      first_true : (b c : Bool) → (b && c) ≡ true → b ≡ true
      first_true true c h = refl
      first_true false c h = absurd (cc)

      no_key : (o : Option (List ℕ)) → IsKeyFor x.plan w.a o → (o ≡ None) ⊎ (left_over block.addr key ≡ None)
      no_key None for_it = inl refl
      no_key (Some k) for_it =
          let new : is_replacement w.a.step ≡ true = first_true (is_replacement w.a.step) (x.plan.late w.a.resource) for_it.0 in
          let step = (q.only w.a (at-contained x.plan.actions w.k w.a w.at) w.is.addr_is w.is.key_is).0 in
          let half = replacing (records_in (setting x) block key) q.decision w.a.step step new in
          let done = q.done (replaced half.0.attributes) half.2 in
          let gone_is = destroyed_gone block.addr (object_at key None) (record { a = done.0; there = done.1; addr_is = done.2.addr; key_is = done.2.key_is; destroys = ap is_apply done.2.step; deposed = ap deposed_key done.2.step }) in
          inr (ap (λ (l : Option LeftView). after_destroy l (record_in block.addr (object_at key None) x.plan.prior)) gone_is ∙ gone_none (record_in block.addr (object_at key None) x.plan.prior))

  -- no action did
  kept_untouched : (n : ℕ) (block : BlockView) (key : InstanceKeyView) (q : IsPlannedAt (setting x) n block key) → ((k : ℕ) (a : ActionView) → slice_get x.plan.actions k ≡ Some a → IsApplyAt block.addr key a → ⊥)
      → Keeps (told block.addr key) key → IsKept x n block key
  kept_untouched n block key q none keep =
      let records = records_in (setting x) block key in
      let still : q.decision ≡ decision.nothing = is_nothing (some_apply q.schema block.lifecycle.ignore_changes records q.is.made q.decision q.is.changes) in
      let old = some_current (current records) (q.is.changes ∙ still) in
      let prior : record_in block.addr (object_at key None) x.plan.prior ≡ Some old.0 = sym (current_known block.addr key x.plan.prior) ∙ old.1 in
      let not_destroyed = left_none still in
      let left : left_over block.addr key ≡ Some old.0 = ap (λ (l : Option LeftView). after_destroy l (record_in block.addr (object_at key None) x.plan.prior)) not_destroyed ∙ prior in
      record {
        by_plan = q;
        only = keep.made_of old.0;
        there = current_is block.addr key ∙ keep.current (left_over block.addr key) ∙ ap (option_map keep.made_of) left;
        untainted = keep.tainted old.0 ∙ not_tainted q.schema block.lifecycle.ignore_changes old.0 q.is.made (ap (λ (o : Option RecordView). change q.schema block.lifecycle.ignore_changes o q.is.made) (sym old.1) ∙ q.is.changes ∙ still);
        alone = λ k. none_there block.addr key k (keep.deposed (left_over block.addr key) k);
        how = inr (record { nothing = still; old = old.0; found = old.1; attributes = keep.attributes old.0; tainted = keep.tainted old.0; version = keep.version old.0; none = none });
      }
    where
      is_nothing : (q.decision ≡ decision.nothing) ⊎ ((s : StepView) × Contains (decided_steps (records_in (setting x) block key) q.decision) s × (is_apply s ≡ true)) → q.decision ≡ decision.nothing
      is_nothing (inl e) = e
      is_nothing (inr s) =
          let done = q.done s.0 s.1 in
          let k = index_of done.0 done.1 in
          absurd (none k.0 done.0 k.1 (record { applies = ap is_apply done.2.step ∙ s.2; addr_is = done.2.addr; key_is = done.2.key_is }))

      some_current : (o : Option RecordView) → change q.schema block.lifecycle.ignore_changes o q.is.made ≡ decision.nothing → (r : RecordView) × (o ≡ Some r)
      some_current None e = absurd (cc)
      some_current (Some r) e = (r, refl)

      left_none : q.decision ≡ decision.nothing → left_of_object block.addr (object_at key None) (destroys_in (changes_in x.ms x.heads x.done)) ≡ None
      left_none still = elim (left_in x.ms x.plan block.addr (object_at key None) x.plan.actions x.heads x.done x.are_heads well) [
        | inr f ↦ f.1
        | inl f ↦
            let key_is = ap (λ (i : ObjectIdView). i.key) f.2.object_is in
            let step = (q.only f.0 f.1 f.2.addr_is key_is).0 in
            absurd (nothing_deposed (records_in (setting x) block key) f.0.step (subst (λ (d : DecisionView). Contains (decided_steps (records_in (setting x) block key) d) f.0.step) still step) (ap (λ (i : ObjectIdView). i.deposed) f.2.object_is))
      ]

  -- What is known of each instance of the configuration: its current object alone, which an action made or changed, or none
  -- touched.
  pub kept_at : (n : ℕ) (block : BlockView) (key : InstanceKeyView) → meant_at (plan_names x.plan) n ≡ Some (a_block block) → is_among (keys_at (setting x) n) key ≡ true → IsKept x n block key
  kept_at n block key meant among =
      let q = planned_at (setting x) n block key meant among in
      elim (wanted_in x.ms x.plan block.addr key x.plan.actions x.heads x.done (metadata_updates x.plan) x.are_heads well) [
        | inl w ↦ made_kept n block key q w
        | inr w ↦ kept_untouched n block key q w.0 (keeps block.addr key (told block.addr key) w.1)
      ]

  -- and nothing else is known
  pub known_declared : (addr : ResourceAddrView) (id : ObjectIdView) (y : RecordView) → record_in addr id x.after ≡ Some y → IsDeclaredAt (setting x) addr id.key
  known_declared addr id y e = elim (wanted_in x.ms x.plan addr id.key x.plan.actions x.heads x.done (metadata_updates x.plan) x.are_heads well) [
    | inl w ↦
        subst (λ (k : InstanceKeyView). IsDeclaredAt (setting x) addr k) w.is.key_is
        (subst (λ (l : ResourceAddrView). IsDeclaredAt (setting x) l w.a.key) w.is.addr_is (apply_declared (setting x) w.a (at-contained x.plan.actions w.k w.a w.at) w.is.applies))
    | inr w ↦ by_deposed id.deposed (keeps addr id.key (told addr id.key) w.1) e
  ]
    where
      left_some : (l : Option LeftView) (o : Option RecordView) (z : RecordView) → after_destroy l o ≡ Some z → ((u : RecordView) × (o ≡ Some u)) × (l ≡ Some gone → ⊥)
      left_some l None z f = let no : None ≡ Some z = sym (none_after l) ∙ f in absurd (cc)
      left_some l (Some u) z f = ((u, refl), λ is. let no : None ≡ Some z = sym (ap (λ (m : Option LeftView). after_destroy m (Some u)) is) ∙ f in absurd (cc))

      mapped : (f : RecordView → RecordView) (o : Option RecordView) (z : RecordView) → option_map f o ≡ Some z → (u : RecordView) × (o ≡ Some u)
      mapped f None z g = absurd (cc)
      mapped f (Some u) z g = (u, refl)

      by_deposed : (d : Option (List ℕ)) → Keeps (told addr id.key) id.key → record_in addr (object_at id.key d) x.after ≡ Some y → IsDeclaredAt (setting x) addr id.key
      by_deposed (Some k) keep f =
          let none = none_there addr id.key k (keep.deposed (left_over addr id.key) k) in
          let no : None ≡ Some y = sym none ∙ f in absurd (cc)
      by_deposed None keep f =
          let left = mapped keep.made_of (left_over addr id.key) y (sym (keep.current (left_over addr id.key)) ∙ sym (current_is addr id.key) ∙ f) in
          let parts = left_some (left_of_object addr (object_at id.key None) (destroys_in (changes_in x.ms x.heads x.done))) (record_in addr (object_at id.key None) x.plan.prior) left.0 left.1 in
          let u = parts.0 in
          let r = followed (resource_at addr x.plan.prior.resources) (λ (r : ResourceView). record_at (object_at id.key None) r.records) u.0 u.1 in
          let addr_is = found_addr addr x.plan.prior.resources r.0 r.1 in
          let id_is : u.0.id ≡ object_at id.key None = found_id (object_at id.key None) u.0 r.0.records r.2 in
          let own : resource_at r.0.addr x.plan.prior.resources ≡ Some r.0 = ap (λ (l : ResourceAddrView). resource_at l x.plan.prior.resources) addr_is ∙ r.1 in
          elim (known_object (setting x) r.0 u.0 own (found_contains _ r.0.records u.0 r.2)) [
            | inl decl ↦
                subst (λ (k : InstanceKeyView). IsDeclaredAt (setting x) addr k) (ap (λ (i : ObjectIdView). i.key) id_is)
                (subst (λ (l : ResourceAddrView). IsDeclaredAt (setting x) l u.0.id.key) addr_is decl)
            | inr d ↦
                absurd
                (parts.1
                (destroyed_gone addr (object_at id.key None) (subst (λ (i : ObjectIdView). IsDestroyed (setting x) addr i) id_is (subst (λ (l : ResourceAddrView). IsDestroyed (setting x) l u.0.id) addr_is d))))
          ]
