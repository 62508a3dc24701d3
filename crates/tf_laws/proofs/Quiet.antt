-- An apply without an action keeps each object.
use Rattle.std.proofs.Common.{◌≡◌, ◌∙◌, ◌⊎◌, inl, inr, ℕ, Bool, List, [], ◌∷◌, ◌++◌, Option, Some, None, map, option_map, refl, sym, ap, subst}
use Rattle.std.specs.Option.{option_map_or, option_or}
use Rattle.tf_plan_data.specs.Action.{ActionView}
use Rattle.tf_walk_report.specs.Change.{applies_in, changes_in}
use Rattle.tf_walk_buffers.specs.Head.{AreHeads, Head}
use Rattle.tf_config_address.specs.ResourceAddr.{ResourceAddrView}
use Rattle.tf_config_address.specs.ObjectId.{InstanceKeyView}
use Rattle.tf_state_next.specs.Events.{ApplyView, apply_of_instance, as_apply, ends_in, given_in, nothing_given}
use Rattle.tf_state_next.specs.StateAfter.{IsStateAfter}
use Rattle.tf_walk_action.specs.Outcome.{ActionResultView}
use Rattle.tf_plan_data.specs.Plan.{PlanView}
use Rattle.tf_provider_protocol.specs.Meaning.{Meaning}
use Rattle.tf_walk_report.specs.Events.{events}
use Rattle.tf_walk_buffers.specs.MetadataUpdates.{metadata_updates}
use Rattle.tf_state_next.specs.After.{current_after, deposed_anew, object_at, renewed}
use Rattle.tf_state_next.specs.Ends.{ApplyResultView, unplanned, unwanted}
use Rattle.tf_state_data.specs.Record.{RecordView}
use Rattle.tf_state_data.specs.State.{StateView, record_in}
use Rattle.tf_value_data.specs.Tree.{Entries}
use Rattle.tf_laws.proofs.Events.{IsUnsaved, wanted_in}
use Rattle.tf_laws.specs.Quiet.{IsRenewed, QuietAppliesKeepObjects}

pub no_heads : (plan : PlanView) (heads : List Head) → AreHeads plan [] heads → [] ≡ heads
no_heads plan [] are = refl
no_heads plan (h ∷ heads) are = absurd are

-- a record stays as it is
as_it_is : (before after : Option RecordView) → after ≡ before → IsRenewed before after
as_it_is None after e = e
as_it_is (Some r) after e = (r.dependencies, r.create_before_destroy, e)

-- or is given anew what it depends on and its flag
given_anew : (before after : Option RecordView) (dependencies : List (List ℕ)) (late : Bool) → after ≡ option_map (renewed dependencies late) before → IsRenewed before after
given_anew None after dependencies late e = e
given_anew (Some r) after dependencies late e = (dependencies, late, e)

-- what wasn't saved keeps the current object, and makes no deposed one
current_kept : (addr : ResourceAddrView) (key : InstanceKeyView) (w : Option ApplyView) (before after : Option RecordView) → (w ≡ None) ⊎ ((y : ApplyView) × (w ≡ Some y) × (y.applied ≡ unplanned))
    → after ≡ current_after (option_map_or (λ a. a.given) w (nothing_given key)) (option_map_or (λ a. a.applied) w unwanted) before → IsRenewed before after
current_kept addr key w before after (inl none) e =
    as_it_is before after (e ∙ ap (λ (o : Option ApplyView). current_after (option_map_or (λ a. a.given) o (nothing_given key)) (option_map_or (λ a. a.applied) o unwanted) before) none)
current_kept addr key w before after (inr y) e =
    given_anew before after y.0.given.dependencies y.0.given.create_before_destroy
    (e ∙ ap (λ (o : Option ApplyView). current_after (option_map_or (λ a. a.given) o (nothing_given key)) (option_map_or (λ a. a.applied) o unwanted) before) y.1
    ∙ ap (λ (v : ApplyResultView). current_after y.0.given v before) y.2)

none_deposed : (key : InstanceKeyView) (w : Option ApplyView) (left : Option RecordView) (k : List ℕ) → (w ≡ None) ⊎ ((y : ApplyView) × (w ≡ Some y) × (y.applied ≡ unplanned))
    → deposed_anew (option_map_or (λ a. a.given) w (nothing_given key)) (option_map_or (λ a. a.applied) w unwanted) left k ≡ None
none_deposed key w left k (inl none) = ap (λ (o : Option ApplyView). deposed_anew (option_map_or (λ a. a.given) o (nothing_given key)) (option_map_or (λ a. a.applied) o unwanted) left k) none
none_deposed key w left k (inr y) =
    ap (λ (o : Option ApplyView). deposed_anew (option_map_or (λ a. a.given) o (nothing_given key)) (option_map_or (λ a. a.applied) o unwanted) left k) y.1
    ∙ ap (λ (v : ApplyResultView). deposed_anew y.0.given v left k) y.2

module _ (ms : List Meaning) (plan : PlanView) (done : List ActionResultView) (outputs : Entries) (after : StateView)
    (state : IsStateAfter plan.prior (given_in (events ms plan [] done)) (ends_in (events ms plan [] done)) outputs after) where
  told_nothing : (addr : ResourceAddrView) (key : InstanceKeyView) → IsUnsaved ms plan addr key (apply_of_instance addr key (applies_in (changes_in ms [] done) ++ map as_apply (metadata_updates plan)))
  told_nothing addr key = elim (wanted_in ms plan addr key [] [] done (metadata_updates plan) tt tt) [
    | inl w ↦ let none : None ≡ Some w.a = w.at in absurd (cc)
    | inr w ↦ w.1
  ]

  by_deposed : (addr : ResourceAddrView) (key : InstanceKeyView) (d : Option (List ℕ)) → IsRenewed (record_in addr (object_at key d) plan.prior) (record_in addr (object_at key d) after)
  by_deposed addr key None =
      current_kept addr key (apply_of_instance addr key (applies_in (changes_in ms [] done) ++ map as_apply (metadata_updates plan))) (record_in addr (object_at key None) plan.prior) (record_in addr (object_at key None) after)
      (told_nothing addr key) (state.records addr (object_at key None))
  by_deposed addr key (Some k) =
      as_it_is (record_in addr (object_at key (Some k)) plan.prior) (record_in addr (object_at key (Some k)) after)
      (state.records addr (object_at key (Some k))
      ∙ ap (λ (o : Option RecordView). option_or o (record_in addr (object_at key (Some k)) plan.prior))
      (none_deposed key (apply_of_instance addr key (applies_in (changes_in ms [] done) ++ map as_apply (metadata_updates plan))) (record_in addr (object_at key None) plan.prior) k (told_nothing addr key)))

pub quiet_keeps : QuietAppliesKeepObjects
quiet_keeps ms plan done outputs after none is addr id =
    let heads = no_heads plan is.heads (subst (λ (xs : List ActionView). AreHeads plan xs is.heads) none is.are_heads) in
    let state = subst (λ (hs : List Head). IsStateAfter plan.prior (given_in (events ms plan hs done)) (ends_in (events ms plan hs done)) outputs after) (sym heads) is.after in
    by_deposed ms plan done outputs after state addr id.key id.deposed
