use Rattle.std.proofs.Common.{◌≡◌, ◌∷◌, ◌++◌, List, [], map, sym, ap, subst, ◌∙◌, arith}
use Rattle.std.proofs.lemmas.List.{map-append}
use Rattle.tf_state_next.proofs.Changing.{empty}
use Rattle.tf_state_next.proofs.OneByOne.{applied_joined, none_applied}
use Rattle.tf_state_next.proofs.Pending.{pending_fewer}
use Rattle.tf_state_next.specs.Events.{as_apply, instance_of, metadata_update_of}
use Rattle.tf_state_next.specs.Recorded.{AreApplied}
use Rattle.tf_state_next.specs.declared.events.MetadataUpdate.{MetadataUpdate}
use Rattle.tf_state_data.specs.Resource.{resource_of}
use Rattle.tf_state_next.proofs.recording.renew_all.Goals as goal

pub loop-event-preserved : goal.loop-event-preserved
loop-event-preserved c =
    let front = map as_apply (map metadata_update_of c.pop.new.self.items) in
    let a = as_apply (metadata_update_of c.in-Some.event) in
    let all : map as_apply (map metadata_update_of c.loop-event.metadata_updates.items) ≡ front ++ a ∷ [] =
    ap (λ (rs : List MetadataUpdate). map as_apply (map metadata_update_of rs)) c.in-Some.ensures.items ∙ ap (map as_apply) (map-append metadata_update_of c.pop.new.self.items (c.in-Some.event ∷ [])) ∙ map-append as_apply (map metadata_update_of c.pop.new.self.items) (metadata_update_of c.in-Some.event ∷ []) in
    pending_fewer AreApplied instance_of front a (map as_apply (map metadata_update_of c.loop-event.metadata_updates.items)) (map as_apply (map metadata_update_of c.args.metadata_updates.items)) c.loop-event.resources c.renew.new.resources c.args.resources.now
    applied_joined all c.renew.ensures.recorded c.renew.ensures.recorded.heads c.renew.ensures.room c.loop-event.invariant

-- none is left
pub returns-clause-recorded : goal.returns-clause-recorded
returns-clause-recorded c =
    let none : c.loop-event.metadata_updates.items ≡ [] = empty c.loop-event.metadata_updates.items (omega (arith, c.in_default.ensures.cases)) in
    let now = map resource_of c.loop-event.resources in
    c.loop-event.invariant.recorded now (subst (λ (rs : List MetadataUpdate). AreApplied (map as_apply (map metadata_update_of rs)) now now) (sym none) (none_applied now))
