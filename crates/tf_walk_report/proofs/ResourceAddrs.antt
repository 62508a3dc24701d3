-- The resources of creates and updates.
use Rattle.std.proofs.Common.{◌≡◌, ◌∙◌, Bool, true, false, cond, List, [], ◌∷◌, length, map, filter, refl, sym, ap₂, subst, arith}
use Rattle.std.specs.Prelude.{if◌then◌else◌}
use Rattle.tf_plan_data.specs.Action.{ActionView}
use Rattle.tf_walk_report.specs.Change.{ChangeView, applies_in, change_by, changes_in, applied_of_done, left_of_done}
use Rattle.tf_walk_buffers.specs.Head.{AreHeads, Head, Target, an_instance, an_object, given_with, key_in}
use Rattle.tf_config_address.specs.ResourceAddr.{ResourceAddrView}
use Rattle.tf_config_address.specs.ObjectId.{ObjectIdView}
use Rattle.tf_state_next.specs.Events.{ApplyView}
use Rattle.tf_walk_action.specs.Outcome.{ActionResultView}
use Rattle.tf_plan_data.specs.Fits.{is_apply, deposed_key}
use Rattle.tf_plan_data.specs.Plan.{PlanView}
use Rattle.tf_provider_protocol.specs.Meaning.{Meaning}
use Rattle.tf_state_next.specs.After.{object_at}
use Rattle.tf_state_next.specs.Ends.{ApplyResultView, LeftView, RecordInputView}
use Rattle.tf_walk_report.specs.Reserved.{applied_addrs}

abbrev pub addrs_in : List ApplyView → List ResourceAddrView
addrs_in applies = map (λ a. a.addr) applies

one_addr : (addr own : ResourceAddrView) (t : Target) (applied : ApplyResultView) (left : LeftView) (rest : List ChangeView) (b : Bool) (given : RecordInputView) (id : ObjectIdView) (more : List ResourceAddrView)
    → t ≡ (if b then an_instance given else an_object id) → addr ≡ own → addrs_in (applies_in rest) ≡ more → addrs_in (applies_in (change_by addr t applied left ∷ rest)) ≡ cond b (own ∷ more) more
one_addr addr own t applied left rest true given id more e l m = subst (λ x. addrs_in (applies_in (change_by addr x applied left ∷ rest)) ≡ own ∷ more) (sym e) (ap₂ (λ x xs. x ∷ xs) l m)
one_addr addr own t applied left rest false given id more e l m = subst (λ x. addrs_in (applies_in (change_by addr x applied left ∷ rest)) ≡ more) (sym e) m

kept_addr : (b : Bool) (a : ActionView) (actions : List ActionView) → map (λ x. x.addr) (cond b (a ∷ actions) actions) ≡ cond b (a.addr ∷ map (λ x. x.addr) actions) (map (λ x. x.addr) actions)
kept_addr true a actions = refl
kept_addr false a actions = refl

-- they are those of the actions
pub addrs-applied : (ms : List Meaning) (plan : PlanView) (actions : List ActionView) (heads : List Head) (done : List ActionResultView) → AreHeads plan actions heads → length actions ≡ length done
    → addrs_in (applies_in (changes_in ms heads done)) ≡ applied_addrs actions
addrs-applied ms plan [] [] done are sized = refl
addrs-applied ms plan [] (h ∷ heads) done are sized = absurd are
addrs-applied ms plan (a ∷ actions) [] done are sized = absurd are
addrs-applied ms plan (a ∷ actions) (h ∷ heads) [] are sized = absurd (omega (arith, sized))
addrs-applied ms plan (a ∷ actions) (h ∷ heads) (d ∷ done) are sized =
    let fewer : length actions ≡ length done = omega (arith, sized) in
    one_addr h.addr a.addr h.target (applied_of_done ms h.op d) (left_of_done ms d) (changes_in ms heads done) (is_apply a.step) (given_with plan a (key_in h.target)) (object_at a.key (deposed_key a.step)) (applied_addrs actions)
    are.0.target.same are.0.addr (addrs-applied ms plan actions heads done are.1 fewer)
    ∙ sym (kept_addr (is_apply a.step) a (filter (λ x. is_apply x.step) actions))
