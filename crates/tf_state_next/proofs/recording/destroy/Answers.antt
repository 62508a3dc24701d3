use Rattle.std.proofs.Common.{◌≡◌, ℕ, map, sym, subst}
use Rattle.tf_state_next.proofs.Changing.{changed_in, read_at, room_kept}
use Rattle.tf_state_next.proofs.OneByOne.{one_destroyed}
use Rattle.tf_state_next.specs.Events.{DestroyView, destroy_of, nothing_given}
use Rattle.tf_state_next.specs.After.{IsAfter}
use Rattle.tf_state_next.specs.Ends.{destroy_of as ends_of_destroy}
use Rattle.tf_state_data.specs.Resource.{HasRoomForRecords, resource_of}
use Rattle.tf_state_data.specs.declared.resource.Resource.{Resource}
use Rattle.tf_state_next.proofs.recording.destroy.Goals as goal

-- what is changed is the resource that was found
changed_from : (d : DestroyView) (found old new : Resource) → old ≡ found → IsAfter (nothing_given d.id.key) (ends_of_destroy d.id.deposed d.left) (resource_of found) (resource_of new)
    → IsAfter (nothing_given d.id.key) (ends_of_destroy d.id.deposed d.left) (resource_of old) (resource_of new)
changed_from d found old new is after = subst (λ (r : Resource). IsAfter (nothing_given d.id.key) (ends_of_destroy d.id.deposed d.left) (resource_of r) (resource_of new)) (sym is) after

pub returns-in-Ok-clause-recorded : goal.returns-in-Ok-clause-recorded
returns-in-Ok-clause-recorded c =
    let d = destroy_of c.args.event in
    let old = c.index-resources-index.result in
    let new = c.record_destroy.new.resource in
    let is = changed_from d _ old new c.index-resources-index.is (c.record_destroy.ensures.after (nothing_given d.id.key) (λ i. d.id.key)) in
    one_destroyed d (map resource_of c.args.resources.now) (map resource_of _) (resource_of old) (resource_of new)
    (changed_in d.addr c.args.resources.now c.in-Ok.index old new c.in-Ok.ensures.found c.index-resources-index.is is.addr is.provider) is

pub returns-in-Ok-clause-room : goal.returns-in-Ok-clause-room
returns-in-Ok-clause-room c count room =
    let d = destroy_of c.args.event in
    let old = c.index-resources-index.result in
    let new = c.record_destroy.new.resource in
    let is = changed_from d _ old new c.index-resources-index.is (c.record_destroy.ensures.after (nothing_given d.id.key) (λ i. d.id.key)) in
    let keeps = subst (λ (r : Resource). (n : ℕ) → HasRoomForRecords n r → HasRoomForRecords n new) (sym c.index-resources-index.is) c.record_destroy.ensures.room in
    room_kept count c.args.resources.now c.in-Ok.index old new (read_at d.addr c.args.resources.now c.in-Ok.index old c.in-Ok.ensures.found c.index-resources-index.is) is.addr keeps room
