-- What comes of an apply may be part of a valid state.
use Rattle.std.proofs.Common.{◌≡◌, ◌∙◌, ◌+◌, ◌++◌, ℕ, Bool, true, false, List, [], ◌∷◌, map, refl, sym, subst}
use Rattle.std.specs.List.{AllByRecursion}
use Rattle.std.specs.Prelude.{Option, Some, None, if◌then◌else◌}
use Rattle.tf_plan_data.specs.Action.{ActionView}
use Rattle.tf_walk_report.specs.Change.{ChangeView, an_apply, a_destroy, MayBeLeft, MayBeStored, applied_of_done, applies_in, change_by, changes_in, destroys_in, left_of_done}
use Rattle.tf_walk_buffers.specs.Head.{AreHeads, Head, IsKeyFor, Target, an_instance, an_object, given_with, key_in, records_at}
use Rattle.tf_config_address.specs.ResourceAddr.{ResourceAddrView}
use Rattle.tf_config_address.specs.Name.{is_name}
use Rattle.tf_config_address.specs.ObjectId.{ObjectIdView}
use Rattle.tf_state_next.specs.Events.{MetadataUpdateView, as_apply}
use Rattle.tf_state_next.specs.Sound.{AreSound, IsSoundApply, IsSoundDestroy, IsSoundLeft}
use Rattle.tf_walk_action.specs.Outcome.{ActionResultView}
use Rattle.tf_plan_data.specs.Fits.{IsDeclared, is_apply, deposed_key}
use Rattle.tf_plan_data.specs.Plan.{PlanView, plan_names}
use Rattle.tf_provider_protocol.specs.Meaning.{Meaning}
use Rattle.tf_state.specs.Valid.{AreAddresses, IsDeposed, IsKey}
use Rattle.tf_state_next.proofs.Keys.{key_hex}
use Rattle.tf_state_next.specs.After.{object_at}
use Rattle.tf_state_next.specs.Ends.{LeftView, gone, changed, unchanged, ApplyResultView, unwanted, unplanned, nothing, saved, RecordInputView}
use Rattle.tf_state_data.specs.Resource.{ResourceView}
use Rattle.tf_walk_report.proofs.Addresses.{NameFits, block_named, dependencies-addresses, names_fit, numbered-key}
use Rattle.tf_walk_report.proofs.Apart.{IsOfEach, metadata_updates-all}
use Rattle.tf_walk_report.specs.Events.{events}
use Rattle.tf_walk_buffers.specs.MetadataUpdates.{metadata_updates}
use Rattle.tf_walk_report.specs.Savable.{HasNames, IsNamed}

-- ---- destroys

left_sound : (left : LeftView) → MayBeLeft left → IsSoundLeft left
left_sound gone h = tt
left_sound (changed t) h = h
left_sound unchanged h = tt

destroys_sound : (changes : List ChangeView) → AllByRecursion MayBeStored changes → AllByRecursion IsSoundDestroy (destroys_in changes)
destroys_sound [] h = tt
destroys_sound (an_apply a ∷ changes) h = destroys_sound changes h.1
destroys_sound (a_destroy d ∷ changes) h = (left_sound d.left h.0, destroys_sound changes h.1)

-- ---- creates and updates

-- what the record of an object is given may be part of a valid state
record IsGivenSoundly (addr : ResourceAddrView) (given : RecordInputView) : Type 0 where
  type_name : is_name addr.type_name ≡ true
  name : is_name addr.name ≡ true
  key : IsKey given.key
  dependencies : AreAddresses given.dependencies
  deposed : IsDeposed given.deposed_key

apply_sound : (addr : ResourceAddrView) (given : RecordInputView) (applied : ApplyResultView) (left : LeftView) → IsGivenSoundly addr given → MayBeStored (change_by addr (an_instance given) applied left) → IsSoundApply (record { addr = addr; given = given; applied = applied })
apply_sound addr given (saved s) left g h = record { type_name = g.type_name; name = g.name; key = g.key; version = h.1; dependencies = g.dependencies; deposed_key = g.deposed; attributes = h.0 }
apply_sound addr given nothing left g h = tt
apply_sound addr given unplanned left g h = g.dependencies
apply_sound addr given unwanted left g h = tt

one_sound : (addr : ResourceAddrView) (t : Target) (applied : ApplyResultView) (left : LeftView) (rest : List ChangeView) (b : Bool) (given : RecordInputView) (id : ObjectIdView) → t ≡ (if b then an_instance given else an_object id)
    → (b ≡ true → IsGivenSoundly addr given) → MayBeStored (change_by addr t applied left) → AllByRecursion IsSoundApply (applies_in rest) → AllByRecursion IsSoundApply (applies_in (change_by addr t applied left ∷ rest))
one_sound addr t applied left rest true given id e g h m =
    subst (λ x. AllByRecursion IsSoundApply (applies_in (change_by addr x applied left ∷ rest))) (sym e)
    (apply_sound addr given applied left (g refl) (subst (λ x. MayBeStored (change_by addr x applied left)) e h), m)
one_sound addr t applied left rest false given id e g h m = subst (λ x. AllByRecursion IsSoundApply (applies_in (change_by addr x applied left ∷ rest))) (sym e) m

key_deposed : (plan : PlanView) (a : ActionView) (key : Option (List ℕ)) → IsKeyFor plan a key → IsDeposed key
key_deposed plan a None h = tt
key_deposed plan a (Some key) h = key_hex (plan.prior.serial + 1) a.key (records_at a.addr plan.prior) key h.1

given_sound : (plan : PlanView) (a : ActionView) (addr : ResourceAddrView) (key : Option (List ℕ)) → HasNames plan → IsDeclared (plan_names plan) a → addr ≡ a.addr → IsKeyFor plan a key → is_apply a.step ≡ true → IsGivenSoundly addr (given_with plan a key)
given_sound plan a addr key named declared same is_key applies =
    let b = declared applies in
    let fit = names_fit plan named in
    let names : IsNamed b.block = block_named (plan_names plan) a.resource b.block fit b.stands in
    let own : b.block.addr ≡ addr = b.own ∙ sym same in
    record {
      type_name = subst (λ (l : ResourceAddrView). is_name l.type_name ≡ true) own names.0;
      name = subst (λ (l : ResourceAddrView). is_name l.name ≡ true) own names.1;
      key = numbered-key a.key b.numbered;
      dependencies = dependencies-addresses plan.needs (plan_names plan) a.resource fit;
      deposed = key_deposed plan a key is_key;
    }

applies_sound : (ms : List Meaning) (plan : PlanView) (actions : List ActionView) (heads : List Head) (done : List ActionResultView) → HasNames plan → AreHeads plan actions heads → AllByRecursion (IsDeclared (plan_names plan)) actions
    → AllByRecursion MayBeStored (changes_in ms heads done) → AllByRecursion IsSoundApply (applies_in (changes_in ms heads done))
applies_sound ms plan [] [] done named are declared h = tt
applies_sound ms plan [] (k ∷ heads) done named are declared h = absurd are
applies_sound ms plan (a ∷ actions) [] done named are declared h = absurd are
applies_sound ms plan (a ∷ actions) (k ∷ heads) [] named are declared h = tt
applies_sound ms plan (a ∷ actions) (k ∷ heads) (d ∷ done) named are declared h =
    one_sound k.addr k.target (applied_of_done ms k.op d) (left_of_done ms d) (changes_in ms heads done) (is_apply a.step) (given_with plan a (key_in k.target)) (object_at a.key (deposed_key a.step)) are.0.target.same
    (given_sound plan a k.addr (key_in k.target) named declared.0 are.0.addr are.0.target.key) h.0 (applies_sound ms plan actions heads done named are.1 declared.1 h.1)

-- ---- metadata updates

renewed_each : (plan : PlanView) (rs : List ResourceView) → AllByRecursion NameFits (plan_names plan) → AllByRecursion (IsOfEach plan (λ y. AreAddresses y.given.dependencies)) rs
renewed_each plan [] fit = tt
renewed_each plan (r ∷ rs) fit = (λ n x place stay. dependencies-addresses plan.needs (plan_names plan) n fit, renewed_each plan rs fit)

renewals_sound : (ys : List MetadataUpdateView) → AllByRecursion (λ y. AreAddresses y.given.dependencies) ys → AllByRecursion IsSoundApply (map as_apply ys)
renewals_sound [] h = tt
renewals_sound (y ∷ ys) h = (h.0, renewals_sound ys h.1)

all_append : {A : Type 0} (P : A → Type 0) (xs ys : List A) → AllByRecursion P xs → AllByRecursion P ys → AllByRecursion P (xs ++ ys)
all_append P [] ys h k = k
all_append P (x ∷ xs) ys h k = (h.0, all_append P xs ys h.1 k)

-- where blocks are of names, all of it
pub events-sound : (ms : List Meaning) (plan : PlanView) (heads : List Head) (done : List ActionResultView) → HasNames plan → AreHeads plan plan.actions heads → AllByRecursion (IsDeclared (plan_names plan)) plan.actions
    → AllByRecursion MayBeStored (changes_in ms heads done) → AreSound (events ms plan heads done)
events-sound ms plan heads done named are declared h =
    record {
      destroys = destroys_sound (changes_in ms heads done) h;
      wanted =
          all_append IsSoundApply (applies_in (changes_in ms heads done)) (map as_apply (metadata_updates plan)) (applies_sound ms plan plan.actions heads done named are declared h)
          (renewals_sound (metadata_updates plan) (metadata_updates-all (λ y. AreAddresses y.given.dependencies) plan plan.prior.resources (renewed_each plan plan.prior.resources (names_fit plan named))));
    }
