-- What each instance stands for after an apply that went well: for what was answered, or for its prior object.
use Rattle.std.proofs.Common.{◌≡◌, ◌∙◌, inl, inr, ℕ, true, length, Option, Some, None, sym, ap, arith}
use Rattle.std.specs.List.{range_with_len}
use Rattle.std.specs.Option.{option_map_or}
use Rattle.tf_config_address.specs.ObjectId.{InstanceKeyView}
use Rattle.tf_config_data.specs.Config.{BlockView}
use Rattle.tf_config_data.specs.Names.{a_block, meant_at}
use Rattle.tf_plan_decision.specs.Decision.{DecisionView}
use Rattle.tf_graph.specs.Digraph.{predecessors_of}
use Rattle.tf_graph.specs.Solutions.{seen_by}
use Rattle.tf_plan_order.specs.Members.{is_among}
use Rattle.tf_walk_action.specs.Objects.{object_of, prior_object}
use Rattle.tf_walk_action.specs.Outcome.{done_at, objects_by}
use Rattle.tf_plan_planner.proofs.Distinct.{at-contained}
use Rattle.tf_plan_data.specs.Fits.{IsDeclared}
use Rattle.tf_plan_data.specs.Plan.{plan_names}
use Rattle.tf_walk_report.specs.Report.{objects_after}
use Rattle.tf_state_next.specs.After.{object_at}
use Rattle.tf_state_data.specs.Record.{RecordView}
use Rattle.tf_state_data.specs.State.{record_in}
use Rattle.tf_value_data.specs.Known.{known}
use Rattle.tf_value_data.specs.Tree.{Tree, null}
use Rattle.tf_laws.proofs.After.{IsKept, IsMade, IsUntouched, call_at_index, kept_at}
use Rattle.tf_laws.proofs.Agree.{IsApplyOf, one_apply, seen_of}
use Rattle.tf_laws.proofs.Answers.{good_formed}
use Rattle.tf_laws.proofs.Applied.{Applied, setting}
use Rattle.tf_laws.proofs.Declared.{keys_at}
use Rattle.tf_laws.proofs.Lists.{all_contained, got_within, in_range}
use Rattle.tf_laws.proofs.OneRecord.{current_known}
use Rattle.tf_laws.proofs.Stored.{attributes_known, formed_known, known_attributes}
use Rattle.tf_laws.proofs.Well.{good_object}

module _ (x : Applied) where
  -- an action of an instance's resource is at its address
  pub addr_of : (n : ℕ) (block : BlockView) (key : InstanceKeyView) (j : ℕ) → meant_at (plan_names x.plan) n ≡ Some (a_block block) → (is : IsApplyOf x.plan.actions n key j) → is.a.addr ≡ block.addr
  addr_of n block key j meant is =
      let own = all_contained (IsDeclared (plan_names x.plan)) x.plan.actions is.a x.fit.declared (at-contained x.plan.actions j is.a is.at) is.applies in
      let both : Some (a_block own.block) ≡ Some (a_block block) = sym own.stands ∙ ap (meant_at (plan_names x.plan)) is.resource ∙ meant in
      let same : own.block ≡ block = (cc) in
      sym own.own ∙ ap (λ (b : BlockView). b.addr) same

  -- the number of a made instance's resource
  pub made_resource : (n : ℕ) (block : BlockView) (key : InstanceKeyView) (kept : IsKept x n block key) (r : RecordView) (m : IsMade x block key r) → m.a.resource ≡ n
  made_resource n block key kept r m = (kept.by_plan.only m.a (at-contained x.plan.actions m.k m.a m.at) m.is.addr_is m.is.key_is).1.resource

  -- an instance that an action made or changed stands for what was answered
  pub made_stands : (n : ℕ) (block : BlockView) (key : InstanceKeyView) (kept : IsKept x n block key) (r : RecordView) (m : IsMade x block key r) → objects_after x.plan x.done n key ≡ object_of (done_at x.done m.k)
  made_stands n block key kept r m =
      let own : IsApplyOf x.plan.actions n key m.k = record { a = m.a; at = m.at; applies = m.is.applies; resource = made_resource n block key kept r m; key_is = m.is.key_is } in
      elim (seen_of (plan_names x.plan) x.plan.prior x.plan.actions (done_at x.done) n key (range_with_len 0 (length x.plan.actions))) [
        | inl f ↦ f.3 ∙ ap (λ (j : ℕ). object_of (done_at x.done j)) (one_apply x.ms (plan_names x.plan) x.plan.prior.resources x.plan.actions x.fit n key f.0 m.k f.2 own)
        | inr f ↦ absurd (f.0 m.k (in_range 0 (length x.plan.actions) m.k (omega arith) (omega (arith, got_within x.plan.actions m.k m.a m.at))) own)
      ]

  -- what was known of an untouched instance
  pub old_known : (n : ℕ) (block : BlockView) (key : InstanceKeyView) (d : DecisionView) (r : RecordView) (u : IsUntouched x block key d r) → record_in block.addr (object_at key None) x.plan.prior ≡ Some u.old
  old_known n block key d r u = sym (current_known block.addr key x.plan.prior) ∙ u.found

  -- it stands for its prior object
  pub untouched_stands : (n : ℕ) (block : BlockView) (key : InstanceKeyView) (d : DecisionView) (r : RecordView) → meant_at (plan_names x.plan) n ≡ Some (a_block block) → (u : IsUntouched x block key d r) → objects_after x.plan x.done n key ≡ u.old.attributes
  untouched_stands n block key d r meant u = elim (seen_of (plan_names x.plan) x.plan.prior x.plan.actions (done_at x.done) n key (range_with_len 0 (length x.plan.actions))) [
    | inl f ↦ absurd (u.none f.0 f.2.a f.2.at (record { applies = f.2.applies; addr_is = addr_of n block key f.0 meant f.2; key_is = f.2.key_is }))
    | inr f ↦
        f.1 ∙ ap (prior_object x.plan.prior key) meant
        ∙ ap (λ (o : Option RecordView). option_map_or {U = Tree} (λ r. r.attributes) o null) (old_known n block key d r u)
  ]

  -- each instance's record has the object that it stands for
  pub record_stands : (n : ℕ) (block : BlockView) (key : InstanceKeyView) → meant_at (plan_names x.plan) n ≡ Some (a_block block) → (kept : IsKept x n block key) → kept.only.attributes ≡ objects_after x.plan x.done n key
  record_stands n block key meant kept = elim kept.how [
    | inl m ↦ m.attributes ∙ sym (made_stands n block key kept kept.only m)
    | inr u ↦ u.attributes ∙ sym (untouched_stands n block key kept.by_plan.decision kept.only meant u)
  ]

  -- which is known
  pub stands_known : (n : ℕ) (block : BlockView) (key : InstanceKeyView) → meant_at (plan_names x.plan) n ≡ Some (a_block block) → is_among (keys_at (setting x) n) key ≡ true → known (objects_after x.plan x.done n key) ≡ true
  stands_known n block key meant among =
      let kept = kept_at x n block key meant among in
      elim kept.how [
        | inl m ↦
            let objects = objects_by x.plan (seen_by (done_at x.done) (predecessors_of x.plan.order m.k)) in
            let call = call_at_index x m.k m.a m.at in
            let well = good_object x.ms x.requests x.plan objects m.a (done_at x.done m.k) call m.is.applies in
            ap known (made_stands n block key kept kept.only m)
            ∙ formed_known call.schema (object_of (done_at x.done m.k)) (x.schemas m.a.addr.type_name call.schema call.has) (good_formed call.schema call.asked.object (object_of (done_at x.done m.k)) well)
        | inr u ↦
            ap known (untouched_stands n block key kept.by_plan.decision kept.only meant u)
            ∙ attributes_known u.old.attributes (known_attributes x.plan.prior x.valid block.addr (object_at key None) u.old (old_known n block key kept.by_plan.decision kept.only u))
      ]
