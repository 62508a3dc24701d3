-- The state after an apply that went well is at rest.
use Rattle.std.proofs.Common.{◌≡◌, ◌∙◌, inl, inr, ℕ, true, List, [], Option, Some, None, Result, Ok, refl, sym, ap, subst, ◌∷◌}
use Rattle.std.specs.List.{AllByRecursion}
use Rattle.std.specs.Option.{option_map_or}
use Rattle.std.specs.Prelude.{Contains, option_and_then}
use Rattle.tf_config_address.specs.ObjectId.{InstanceKeyView, ObjectIdView}
use Rattle.tf_plan_object.proofs.Named.{instances_named}
use Rattle.tf_plan_object.specs.Instance.{InstanceFaultView, instance_object}
use Rattle.tf_plan_object.specs.Laws.{InstancesGrow}
use Rattle.tf_config_data.specs.Config.{BlockView}
use Rattle.tf_config_data.specs.Names.{a_block, meant_at}
use Rattle.tf_plan_decision.specs.Stage.{records_at}
use Rattle.tf_plan_decision.specs.Decision.{change, nothing}
use Rattle.tf_expand_keys.proofs.Refining.{followed}
use Rattle.tf_expand_keys.specs.StandingLaws.{ResolvedNamesGrow}
use Rattle.tf_expand_keys.specs.Stages.{applying}
use Rattle.tf_expand_keys.specs.Resolved.{ResolvedView, AreResolvedNames, environment}
use Rattle.tf_plan_order.specs.Members.{is_among, records_of}
use Rattle.tf_state_next.proofs.One.{some_known}
use Rattle.tf_state_next.specs.StateAfter.{has_records}
use Rattle.tf_walk_action.specs.Asked.{asked_by_step}
use Rattle.tf_plan_data.specs.Plan.{plan_names}
use Rattle.tf_provider_protocol.specs.Meaning.{schema_in}
use Rattle.tf_provider_protocol.specs.Schema.{SchemaView}
use Rattle.tf_provider_protocol.specs.Verdict.{is_good_verdict, verdict_on_object}
use Rattle.tf_walk_report.specs.Report.{objects_after}
use Rattle.tf_plan_order.specs.ResourceIndex.{has_block}
use Rattle.tf_state_next.proofs.Places.{found_id}
use Rattle.tf_state_next.specs.After.{object_at}
use Rattle.tf_state_data.specs.Ids.{AreById}
use Rattle.tf_state_data.specs.Record.{RecordView}
use Rattle.tf_state_data.specs.Resource.{ResourceView, record_at}
use Rattle.tf_state_data.specs.State.{record_in, resource_at}
use Rattle.tf_value_data.specs.Tree.{Tree}
use Rattle.tf_laws.proofs.After.{IsKept, kept_at, known_declared}
use Rattle.tf_laws.proofs.Applied.{Applied, setting}
use Rattle.tf_laws.proofs.Declared.{block_has, blocks_one, env_of, found_contains, keys_at, records_found, records_in, resources_found}
use Rattle.tf_laws.proofs.Grown.{grown, made_requested}
use Rattle.tf_laws.proofs.Laid.{applied_known}
use Rattle.tf_laws.proofs.Lists.{all_contained, all_from}
use Rattle.tf_laws.proofs.OneRecord.{one_record}
use Rattle.tf_laws.proofs.Resting.{answered_rest, untouched_rest}
use Rattle.tf_laws.proofs.Settled.{objects_settled}
use Rattle.tf_laws.proofs.Stands.{old_known, record_stands, stands_known}
use Rattle.tf_laws.proofs.Stored.{attributes_known, current_has, known_attributes}
use Rattle.tf_laws.specs.Known.{ExpressionsStayKnown}
use Rattle.tf_laws.specs.Rest.{AreAtRest, IsResting}

module _ (x : Applied) (law : ExpressionsStayKnown) (instances : InstancesGrow) (grow : ResolvedNamesGrow) where
  -- ---- one instance

  module _ (resolved_names : ℕ → ResolvedView) (solves : AreResolvedNames (applying x.plan.shapes (objects_after x.plan x.done)) x.plan.variables (plan_names x.plan) resolved_names)
      (n : ℕ) (block : BlockView) (key : InstanceKeyView) (meant : meant_at (plan_names x.plan) n ≡ Some (a_block block)) (kept : IsKept x n block key) where
    -- beside its record nothing is done
    own_rests : (made : Tree) → instance_object kept.by_plan.schema block key (environment x.plan.variables (plan_names x.plan) resolved_names) ≡ Ok made
        → change kept.by_plan.schema block.lifecycle.ignore_changes (Some kept.only) made ≡ nothing
    own_rests made e =
        let q = kept.by_plan in
        let ignored = block.lifecycle.ignore_changes in
        let after = environment x.plan.variables (plan_names x.plan) resolved_names in
        let good = x.schemas block.addr.type_name q.schema q.has in
        let named = instances_named q.schema block key after made e in
        let env_known = applied_known law x.plan.variables (plan_names x.plan) x.plan.shapes (objects_after x.plan x.done) x.variables_known (λ n block key m among. stands_known x n block key m among) x.ranked resolved_names solves in
        let settled = objects_settled law q.schema ignored block key after made good env_known e in
        elim kept.how [
          | inl m ↦
              let r = made_requested x resolved_names solves n block key meant kept m in
              let both : ◌≡◌ {A = Result Tree InstanceFaultView} (Ok r.made) (Ok made) = sym r.makes ∙ e in
              let same : r.made ≡ made = (cc) in
              let asks = subst (λ (t : Tree). asked_by_step ignored q.schema m.a (Ok t) m.a.step ≡ Ok r.asked) same r.asks in
              let well = subst (λ (t : Tree). is_good_verdict (verdict_on_object q.schema r.asked.object t) ≡ true) (sym m.attributes) r.well in
              answered_rest q.schema ignored m.a m.a.step made r.asked kept.only good named settled m.is.applies asks well kept.untainted
          | inr u ↦
              let stored = known_attributes x.plan.prior x.valid block.addr (object_at key None) u.old (old_known x n block key q.decision kept.only u) in
              let before = instances_named q.schema block key (env_of (setting x)) q.is.made q.is.makes in
              let has = current_has q.schema (records_in (setting x) block key) u.old good stored q.is.fits u.found in
              let done = sym (ap (λ (o : Option RecordView). change q.schema ignored o q.is.made) u.found) ∙ q.is.changes ∙ u.nothing in
              let grows = instances q.schema block key (env_of (setting x)) after q.is.made made (grown x resolved_names solves instances grow).references q.is.makes e in
              untouched_rest q.schema ignored u.old kept.only q.is.made made good before has (attributes_known u.old.attributes stored) done grows u.attributes u.tainted
        ]

    rests_by : (schema : SchemaView) (made : Tree) → schema_in block.addr.type_name x.ms ≡ Some schema → instance_object schema block key (environment x.plan.variables (plan_names x.plan) resolved_names) ≡ Ok made
        → change schema block.lifecycle.ignore_changes (Some kept.only) made ≡ nothing
    rests_by schema made has e =
        let both : Some kept.by_plan.schema ≡ Some schema = sym kept.by_plan.has ∙ has in
        let same : kept.by_plan.schema ≡ schema = (cc) in
        subst (λ (s : SchemaView). change s block.lifecycle.ignore_changes (Some kept.only) made ≡ nothing) same
        (own_rests made (subst (λ (s : SchemaView). instance_object s block key (environment x.plan.variables (plan_names x.plan) resolved_names) ≡ Ok made) (sym same) e))

    found_after : (r : ResourceView) × (resource_at block.addr x.after.resources ≡ Some r) × (record_at (object_at key None) r.records ≡ Some kept.only)
    found_after = followed (resource_at block.addr x.after.resources) (λ (r : ResourceView). record_at (object_at key None) r.records) kept.only kept.there

    -- the instance's records are the one
    pub records_are : records_of key (records_at block.addr x.after.resources) ≡ kept.only ∷ []
    records_are =
        let r = found_after in
        let sorted : AreById r.0.records = all_contained (λ (y : ResourceView). AreById y.records) x.after.resources r.0 x.in_order.records (found_contains _ x.after.resources r.0 r.1) in
        let listed : records_at block.addr x.after.resources ≡ r.0.records = ap (λ (o : Option ResourceView). option_map_or {U = List RecordView} (λ y. y.records) o []) r.1 in
        let alone = λ (k : List ℕ). sym (ap (option_and_then (λ (y : ResourceView). record_at (object_at key (Some k)) y.records)) r.1) ∙ kept.alone k in
        ap (records_of key) listed ∙ one_record key r.0.records kept.only sorted r.2 alone

    resting : IsResting x.ms block key (environment x.plan.variables (plan_names x.plan) resolved_names) (objects_after x.plan x.done n key) (records_of key (records_at block.addr x.after.resources))
    resting =
        let r = found_after in
        record {
          only = kept.only;
          alone = records_are;
          current = ap (λ (i : ObjectIdView). i.deposed) (found_id (object_at key None) kept.only r.0.records r.2);
          stands = record_stands x n block key meant kept;
          rests = rests_by;
        }

  -- ---- all resources

  has_own : (r : ResourceView) → Contains x.after.resources r → has_block (plan_names x.plan) r.addr ≡ true
  has_own r c =
      let has = all_contained (λ (y : ResourceView). has_records y ≡ true) x.after.resources r x.state.present c in
      let found = all_contained (λ (y : ResourceView). resource_at y.addr x.after.resources ≡ Some y) x.after.resources r (resources_found x.after.resources x.in_order.resources) c in
      let y = some_known r.addr x.after r has found in
      let decl = known_declared x r.addr y.0.id y.0 y.1 in
      ap (has_block (plan_names x.plan)) (sym decl.own) ∙ block_has (plan_names x.plan) decl.n decl.block decl.meant

  all_declared : (n : ℕ) (block : BlockView) → meant_at (plan_names x.plan) n ≡ Some (a_block block) → AllByRecursion (λ y. is_among (keys_at (setting x) n) y.id.key ≡ true) (records_at block.addr x.after.resources)
  all_declared n block meant = by_resource (resource_at block.addr x.after.resources) refl
    where
      by_resource : (o : Option ResourceView) → resource_at block.addr x.after.resources ≡ o → AllByRecursion (λ y. is_among (keys_at (setting x) n) y.id.key ≡ true) (option_map_or (λ r. r.records) o [])
      by_resource None e = tt
      by_resource (Some r) e =
          let sorted : AreById r.records = all_contained (λ (y : ResourceView). AreById y.records) x.after.resources r x.in_order.records (found_contains _ x.after.resources r e) in
          all_from (λ (y : RecordView). is_among (keys_at (setting x) n) y.id.key ≡ true) r.records
          (λ y c.
          let own = all_contained (λ (z : RecordView). record_at z.id r.records ≡ Some z) r.records y (records_found r.records sorted) c in
          let known : record_in block.addr y.id x.after ≡ Some y = ap (option_and_then (λ (q : ResourceView). record_at y.id q.records)) e ∙ own in
          let decl = known_declared x block.addr y.id y known in
          let same : decl.n ≡ n = blocks_one (plan_names x.plan) x.apart decl.n n decl.block block decl.meant meant decl.own in
          subst (λ (k : ℕ). is_among (keys_at (setting x) k) y.id.key ≡ true) same decl.among)

  -- the state is at rest
  pub after_rests : AreAtRest x.ms x.plan.variables (plan_names x.plan) x.plan.shapes (objects_after x.plan x.done) x.after.resources
  after_rests = record {
    blocks = all_from (λ (r : ResourceView). has_block (plan_names x.plan) r.addr ≡ true) x.after.resources has_own;
    declared = all_declared;
    rest = λ resolved_names solves n block key meant among. resting resolved_names solves n block key meant (kept_at x n block key meant among);
  }
