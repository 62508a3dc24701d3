-- An apply without an action gives the record of each current object of a block anew what its resource needs, and whether it
-- is late.
use Rattle.std.proofs.Common.{◌≡◌, ◌∙◌, ℕ, Bool, List, [], Option, Some, None, map, option_map, refl, sym, ap, subst}
use Rattle.std.specs.Option.{option_map_or}
use Rattle.std.specs.Prelude.{Contains}
use Rattle.tf_plan_data.specs.Action.{ActionView}
use Rattle.tf_walk_buffers.specs.Dependencies.{dependencies}
use Rattle.tf_walk_buffers.specs.Head.{AreHeads, Head}
use Rattle.tf_config_address.specs.ResourceAddr.{ResourceAddrView}
use Rattle.tf_config_address.specs.ObjectId.{InstanceKeyView, ObjectIdView}
use Rattle.tf_config_data.specs.Config.{BlockView}
use Rattle.tf_config_data.specs.Names.{a_block, meant_at}
use Rattle.tf_expand_keys.proofs.Refining.{followed}
use Rattle.tf_state_next.proofs.Changing.{found_addr}
use Rattle.tf_state_next.specs.Events.{ApplyView, apply_of_instance, as_apply, ends_in, given_in, nothing_given}
use Rattle.tf_state_next.specs.StateAfter.{IsStateAfter}
use Rattle.tf_walk_action.specs.Outcome.{ActionResultView}
use Rattle.tf_plan_data.specs.Plan.{PlanView, plan_names}
use Rattle.tf_provider_protocol.specs.Meaning.{Meaning}
use Rattle.tf_walk_report.specs.Events.{events}
use Rattle.tf_walk_buffers.specs.MetadataUpdates.{metadata_updates}
use Rattle.tf_walk_report.specs.Report.{IsStateOf}
use Rattle.tf_plan_order.proofs.Standing.{each-placed, resources-apart}
use Rattle.tf_plan_order.specs.ResourceLaws as resources_laws
use Rattle.tf_plan_order.specs.ResourceIndex.{a_name, numbered, place_in}
use Rattle.tf_state_next.proofs.Places.{found_id}
use Rattle.tf_state_next.specs.After.{current_after, object_at, renewed}
use Rattle.tf_state_next.specs.Ends.{ApplyResultView, unwanted}
use Rattle.tf_state_data.specs.Addresses.{AreByAddress}
use Rattle.tf_state_data.specs.Record.{RecordView}
use Rattle.tf_state_data.specs.Resource.{ResourceView, record_at}
use Rattle.tf_state_data.specs.State.{StateView, record_in, resource_at}
use Rattle.tf_value_data.specs.Tree.{Entries}
use Rattle.tf_laws.proofs.Declared.{found_contains}
use Rattle.tf_laws.proofs.Lists.{nothing_in}
use Rattle.tf_laws.proofs.Places.{meant_within}
use Rattle.tf_laws.proofs.Quiet.{no_heads}
use Rattle.tf_laws.proofs.Renewals.{block_place, current_stays, found_renewal, staying_found}

module _ (ms : List Meaning) (plan : PlanView) (done : List ActionResultView) (outputs : Entries) (after : StateView) (none : plan.actions ≡ [])
    (state : IsStateAfter plan.prior (given_in (events ms plan [] done)) (ends_in (events ms plan [] done)) outputs after)
    (apart : resources_laws.AreApart (map a_name (plan_names plan))) (by_address : AreByAddress plan.prior.resources)
    (n : ℕ) (block : BlockView) (key : InstanceKeyView) (y : RecordView) (meant : meant_at (plan_names plan) n ≡ Some (a_block block)) (known : record_in block.addr (object_at key None) plan.prior ≡ Some y) where
  number_is : (m : ℕ) → place_in (numbered (plan_names plan) plan.prior.resources) block.addr ≡ Some m → m ≡ n
  number_is m place = block_place (plan_names plan) plan.prior.resources (resources-apart (plan_names plan) plan.prior.resources apart by_address) block.addr m n block place meant refl

  is_told : apply_of_instance block.addr key (map as_apply (metadata_updates plan)) ≡ None → ⊥
  is_told nothing =
      let all = numbered (plan_names plan) plan.prior.resources in
      let r = followed (resource_at block.addr plan.prior.resources) (λ (r : ResourceView). record_at (object_at key None) r.records) y known in
      let addr_is : r.0.addr ≡ block.addr = found_addr block.addr plan.prior.resources r.0 r.1 in
      let id_is : y.id ≡ object_at key None = found_id (object_at key None) y r.0.records r.2 in
      let there : Contains plan.prior.resources r.0 = found_contains _ plan.prior.resources r.0 r.1 in
      let placed = each-placed (plan_names plan) plan.prior.resources r.0 there in
      let own_number : placed.0 ≡ n = number_is placed.0 (ap (place_in all) (sym addr_is) ∙ placed.1) in
      staying_found plan r.0 y n there (found_contains _ r.0.records y r.2) (placed.1 ∙ ap Some own_number) (meant_within (plan_names plan) n (a_block block) meant)
      (current_stays plan n y (ap (λ (i : ObjectIdView). i.deposed) id_is) (λ a c about. nothing_in a (subst (λ (xs : List ActionView). Contains xs a) none c)))
      (ap (λ (l : ResourceAddrView). apply_of_instance l y.id.key (map as_apply (metadata_updates plan))) addr_is
      ∙ ap (λ (k : InstanceKeyView). apply_of_instance block.addr k (map as_apply (metadata_updates plan))) (ap (λ (i : ObjectIdView). i.key) id_is) ∙ nothing)

  by_told : (o : Option ApplyView) → apply_of_instance block.addr key (map as_apply (metadata_updates plan)) ≡ o → record_in block.addr (object_at key None) after ≡ Some (renewed (dependencies plan.needs (plan_names plan) n) (plan.late n) y)
  by_told None e = absurd (is_told e)
  by_told (Some a) e =
      let r = found_renewal plan block.addr key a e in
      let number : r.n ≡ n = number_is r.n r.place in
      let prior = record_in block.addr (object_at key None) plan.prior in
      state.records block.addr (object_at key None)
      ∙ ap (λ (o : Option ApplyView). current_after (option_map_or (λ a. a.given) o (nothing_given key)) (option_map_or (λ a. a.applied) o unwanted) prior) e
      ∙ ap (λ (v : ApplyResultView). current_after a.given v prior) r.not_planned
      ∙ ap (option_map (renewed a.given.dependencies a.given.create_before_destroy)) known
      ∙ ap (λ (ds : List (List ℕ)). Some (renewed ds a.given.create_before_destroy y)) (r.needs ∙ ap (dependencies plan.needs (plan_names plan)) number)
      ∙ ap (λ (b : Bool). Some (renewed (dependencies plan.needs (plan_names plan) n) b y)) (r.late ∙ ap plan.late number)

-- what the record of a block's current object is given anew
pub given_anew : (ms : List Meaning) (plan : PlanView) (done : List ActionResultView) (outputs : Entries) (after : StateView) → plan.actions ≡ [] → IsStateOf ms plan done outputs after
    → resources_laws.AreApart (map a_name (plan_names plan)) → AreByAddress plan.prior.resources
    → (n : ℕ) (block : BlockView) (key : InstanceKeyView) (y : RecordView) → meant_at (plan_names plan) n ≡ Some (a_block block) → record_in block.addr (object_at key None) plan.prior ≡ Some y
    → record_in block.addr (object_at key None) after ≡ Some (renewed (dependencies plan.needs (plan_names plan) n) (plan.late n) y)
given_anew ms plan done outputs after none is apart by_address n block key y meant known =
    let heads = no_heads plan is.heads (subst (λ (xs : List ActionView). AreHeads plan xs is.heads) none is.are_heads) in
    let state = subst (λ (hs : List Head). IsStateAfter plan.prior (given_in (events ms plan hs done)) (ends_in (events ms plan hs done)) outputs after) (sym heads) is.after in
    by_told ms plan done outputs after none state apart by_address n block key y meant known (apply_of_instance block.addr key (map as_apply (metadata_updates plan))) refl
