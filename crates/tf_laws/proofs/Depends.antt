-- After an apply that went well the record of each object lists what its resource needs by the configuration.
use Rattle.std.proofs.Common.{◌≡◌, ◌∙◌, ◌&&◌, ◌==◌, inl, inr, ℕ, Bool, true, false, List, Option, Some, None, map, option_map, refl, sym, ap, subst}
use Rattle.std.proofs.lemmas.Bool.{eqb-true}
use Rattle.std.specs.Option.{option_map_or}
use Rattle.std.specs.Prelude.{Contains, slice_get}
use Rattle.tf_plan_data.specs.Action.{ActionView}
use Rattle.tf_walk_buffers.specs.Dependencies.{dependencies}
use Rattle.tf_walk_buffers.specs.Head.{given_with}
use Rattle.tf_config_address.specs.ResourceAddr.{ResourceAddrView}
use Rattle.tf_config_address.specs.ObjectId.{InstanceKeyView, ObjectIdView}
use Rattle.tf_config_address.specs.Same.{same_instance_key}
use Rattle.tf_config_data.specs.Config.{BlockView}
use Rattle.tf_config_data.specs.Names.{a_block, meant_at}
use Rattle.tf_plan_decision.specs.Steps.{decided_steps}
use Rattle.tf_plan_decision.specs.Decision.{DecisionView}
use Rattle.tf_expand_keys.proofs.Refining.{followed}
use Rattle.tf_state_next.proofs.Changing.{found_addr}
use Rattle.tf_state_next.specs.Events.{ApplyView, apply_of_instance, as_apply, nothing_given}
use Rattle.tf_walk_action.specs.Objects.{object_of}
use Rattle.tf_walk_action.specs.Outcome.{done_at}
use Rattle.tf_plan_planner.proofs.Distinct.{at-contained}
use Rattle.tf_plan_planner.proofs.Objects.{one_key}
use Rattle.tf_plan_data.specs.Fits.{IsPlaced, deposed_key}
use Rattle.tf_plan_data.specs.Plan.{plan_names}
use Rattle.tf_walk_buffers.specs.MetadataUpdates.{is_about, is_none, metadata_updates}
use Rattle.tf_plan_order.proofs.Standing.{each-placed, places-differ, resources-apart}
use Rattle.tf_plan_order.specs.ResourceIndex.{numbered, place_in}
use Rattle.tf_state_next.proofs.Places.{found_id}
use Rattle.tf_state_next.specs.After.{current_after, object_at, record_of_saved, renewed}
use Rattle.tf_state_next.specs.Ends.{ApplyResultView, unwanted}
use Rattle.tf_state_data.specs.Record.{RecordView}
use Rattle.tf_state_data.specs.Resource.{ResourceView, record_at}
use Rattle.tf_state_data.specs.State.{record_in, resource_at}
use Rattle.tf_value_data.proofs.Conjunction.{and-first, and-second}
use Rattle.tf_laws.proofs.After.{IsKept, IsUntouched, current_is, left_over, nothing_deposed, told, well}
use Rattle.tf_laws.proofs.Applied.{Applied, setting}
use Rattle.tf_laws.proofs.Declared.{found_contains, records_in}
use Rattle.tf_laws.proofs.Events.{IsApplied, IsApplyAt, told_in}
use Rattle.tf_laws.proofs.Lists.{all_contained}
use Rattle.tf_laws.proofs.Places.{meant_within}
use Rattle.tf_laws.proofs.Renewals.{block_place, current_stays, found_renewal, staying_found}
use Rattle.tf_laws.proofs.Stands.{old_known}

no_deposed : (o : Option (List ℕ)) → is_none o ≡ true → o ≡ None
no_deposed None h = refl
no_deposed (Some k) h = absurd (cc)

given_of_one : (dependencies : List (List ℕ)) (late : Bool) (o : Option RecordView) (z : RecordView) → option_map (renewed dependencies late) o ≡ Some z → z.dependencies ≡ dependencies
given_of_one dependencies late None z e = absurd (cc)
given_of_one dependencies late (Some u) z e = let same : renewed dependencies late u ≡ z = (cc) in sym (ap (λ (r : RecordView). r.dependencies) same)

module _ (x : Applied) (n : ℕ) (block : BlockView) (key : InstanceKeyView) (meant : meant_at (plan_names x.plan) n ≡ Some (a_block block)) (kept : IsKept x n block key) where
  -- the number of the block's resource
  numbers_apart : (m : ℕ) → place_in (numbered (plan_names x.plan) x.plan.prior.resources) block.addr ≡ Some m → m ≡ n
  numbers_apart m place =
      block_place (plan_names x.plan) x.plan.prior.resources (resources-apart (plan_names x.plan) x.plan.prior.resources x.apart x.by_address) block.addr m n block place meant refl

  -- an action made or changed the object
  made_depends : IsApplied x.plan block.addr key x.plan.actions x.done (told x block.addr key) → kept.only.dependencies ≡ dependencies x.plan.needs (plan_names x.plan) n
  made_depends w =
      let given = given_with x.plan w.a w.deposed in
      let object = object_of (done_at x.done w.k) in
      let made : record_in block.addr (object_at key None) x.after ≡ Some (record_of_saved given (object, false)) =
      current_is x block.addr key ∙ ap (λ (o : Option ApplyView). current_after (option_map_or (λ a. a.given) o (nothing_given key)) (option_map_or (λ a. a.applied) o unwanted) (left_over x block.addr key)) w.found in
      let both : Some (record_of_saved given (object, false)) ≡ Some kept.only = sym made ∙ kept.there in
      let same : record_of_saved given (object, false) ≡ kept.only = (cc) in
      let resource : w.a.resource ≡ n = (kept.by_plan.only w.a (at-contained x.plan.actions w.k w.a w.at) w.is.addr_is w.is.key_is).1.resource in
      sym (ap (λ (r : RecordView). r.dependencies) same) ∙ ap (dependencies x.plan.needs (plan_names x.plan)) resource

  -- none did, and nothing was given anew: this isn't so
  untouched_found : IsUntouched x block key kept.by_plan.decision kept.only → apply_of_instance block.addr key (map as_apply (metadata_updates x.plan)) ≡ None → ⊥
  untouched_found u none =
      let all = numbered (plan_names x.plan) x.plan.prior.resources in
      let r = followed (resource_at block.addr x.plan.prior.resources) (λ (r : ResourceView). record_at (object_at key None) r.records) u.old (old_known x n block key kept.by_plan.decision kept.only u) in
      let addr_is : r.0.addr ≡ block.addr = found_addr block.addr x.plan.prior.resources r.0 r.1 in
      let id_is : u.old.id ≡ object_at key None = found_id (object_at key None) u.old r.0.records r.2 in
      let key_is : u.old.id.key ≡ key = ap (λ (i : ObjectIdView). i.key) id_is in
      let there : Contains x.plan.prior.resources r.0 = found_contains _ x.plan.prior.resources r.0 r.1 in
      let placed = each-placed (plan_names x.plan) x.plan.prior.resources r.0 there in
      let own_number : placed.0 ≡ n = numbers_apart placed.0 (ap (place_in all) (sym addr_is) ∙ placed.1) in
      let place : place_in all r.0.addr ≡ Some n = placed.1 ∙ ap Some own_number in
      let own_place : place_in all block.addr ≡ Some n = ap (place_in all) (sym addr_is) ∙ place in
      staying_found x.plan r.0 u.old n there (found_contains _ r.0.records u.old r.2) place (meant_within (plan_names x.plan) n (a_block block) meant)
      (current_stays x.plan n u.old (ap (λ (i : ObjectIdView). i.deposed) id_is) (λ a c about. not_about own_place key_is a c about))
      (ap (λ (l : ResourceAddrView). apply_of_instance l u.old.id.key (map as_apply (metadata_updates x.plan))) addr_is ∙ ap (λ (k : InstanceKeyView). apply_of_instance block.addr k (map as_apply (metadata_updates x.plan))) key_is ∙ none)
    where
      not_about : place_in (numbered (plan_names x.plan) x.plan.prior.resources) block.addr ≡ Some n → u.old.id.key ≡ key → (a : ActionView) → Contains x.plan.actions a → is_about n u.old.id.key a ≡ true → ⊥
      not_about own_place key_is a c about =
          let all = numbered (plan_names x.plan) x.plan.prior.resources in
          let front : ((a.resource == n) && is_none (deposed_key a.step)) ≡ true = and-first _ (same_instance_key a.key u.old.id.key) about in
          let resource : a.resource ≡ n = eqb-true a.resource n (and-first (a.resource == n) (is_none (deposed_key a.step)) front) in
          let current = no_deposed (deposed_key a.step) (and-second (a.resource == n) (is_none (deposed_key a.step)) front) in
          let own_key : a.key ≡ key = one_key a.key u.old.id.key (and-second _ (same_instance_key a.key u.old.id.key) about) ∙ key_is in
          let placed : place_in all a.addr ≡ Some a.resource = all_contained (IsPlaced all) x.plan.actions a x.fit.placed c in
          let addr : a.addr ≡ block.addr = places-differ all a.addr block.addr n (placed ∙ ap Some resource) own_place in
          let step = (kept.by_plan.only a c addr own_key).0 in
          nothing_deposed (records_in (setting x) block key) a.step (subst (λ (d : DecisionView). Contains (decided_steps (records_in (setting x) block key) d) a.step) u.nothing step) current

  given_depends : apply_of_instance block.addr key (map as_apply (metadata_updates x.plan)) ≡ told x block.addr key → (a : ApplyView) → apply_of_instance block.addr key (map as_apply (metadata_updates x.plan)) ≡ Some a
      → kept.only.dependencies ≡ dependencies x.plan.needs (plan_names x.plan) n
  given_depends same a e =
      let r = found_renewal x.plan block.addr key a e in
      let own : told x block.addr key ≡ Some a = sym same ∙ e in
      let made : record_in block.addr (object_at key None) x.after ≡ option_map (renewed a.given.dependencies a.given.create_before_destroy) (left_over x block.addr key) =
      current_is x block.addr key
      ∙ ap (λ (o : Option ApplyView). current_after (option_map_or (λ a. a.given) o (nothing_given key)) (option_map_or (λ a. a.applied) o unwanted) (left_over x block.addr key)) own
      ∙ ap (λ (v : ApplyResultView). current_after a.given v (left_over x block.addr key)) r.not_planned in
      given_of_one a.given.dependencies a.given.create_before_destroy (left_over x block.addr key) kept.only (sym made ∙ kept.there)
      ∙ r.needs ∙ ap (dependencies x.plan.needs (plan_names x.plan)) (numbers_apart r.n r.place)

  -- its record lists what its resource needs
  pub depends : kept.only.dependencies ≡ dependencies x.plan.needs (plan_names x.plan) n
  depends = elim (told_in x.ms x.plan block.addr key x.plan.actions x.heads x.done (metadata_updates x.plan) x.are_heads (well x)) [
    | inl w ↦ made_depends w
    | inr w ↦ by_found w.0 w.1 (apply_of_instance block.addr key (map as_apply (metadata_updates x.plan))) refl
  ]
    where
      by_found : ((k : ℕ) (a : ActionView) → slice_get x.plan.actions k ≡ Some a → IsApplyAt block.addr key a → ⊥) → told x block.addr key ≡ apply_of_instance block.addr key (map as_apply (metadata_updates x.plan))
          → (o : Option ApplyView) → apply_of_instance block.addr key (map as_apply (metadata_updates x.plan)) ≡ o → kept.only.dependencies ≡ dependencies x.plan.needs (plan_names x.plan) n
      by_found none same (Some a) e = given_depends (sym same) a e
      by_found none same None e = elim kept.how [
        | inl m ↦ absurd (none m.k m.a m.at m.is)
        | inr u ↦ absurd (untouched_found u e)
      ]
