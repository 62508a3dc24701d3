use Rattle.std.proofs.Common.{◌≡◌, ℕ, None, map, refl, sym, subst}
use Rattle.tf_state_next.proofs.Afterwards.{renewed_in_place}
use Rattle.tf_state_next.proofs.Changing.{changed_in, read_at, room_kept}
use Rattle.tf_state_next.proofs.OneByOne.{one_applied}
use Rattle.tf_state_next.specs.Events.{as_apply, metadata_update_of}
use Rattle.tf_state_next.specs.After.{object_at}
use Rattle.tf_state_next.specs.Ends.{unplanned}
use Rattle.tf_state_data.specs.Resource.{HasRoomForRecords, resource_of, with_metadata}
use Rattle.tf_state_data.specs.declared.resource.Resource.{Resource}
use Rattle.tf_state_next.proofs.recording.renew.Goals as goal

pub returns-in-Ok-clause-recorded : goal.returns-in-Ok-clause-recorded
returns-in-Ok-clause-recorded c =
    let a = as_apply (metadata_update_of c.args.event) in
    let old = c.index-resources-index.result in
    let new = c.renew_record.new.resource in
    let is =
    renewed_in_place a.given unplanned (resource_of old) (resource_of new) refl
    (subst (λ (r : Resource). resource_of new ≡ with_metadata (object_at a.given.key None) a.given.dependencies a.given.create_before_destroy (resource_of r)) (sym c.index-resources-index.is) c.renew_record.ensures.renewed) in
    one_applied a (map resource_of c.args.resources.now) (map resource_of _) (resource_of old) (resource_of new)
    (changed_in a.addr c.args.resources.now c.in-Ok.index old new c.in-Ok.ensures.found c.index-resources-index.is is.addr is.provider) is

pub returns-in-Ok-clause-room : goal.returns-in-Ok-clause-room
returns-in-Ok-clause-room c count room =
    let a = as_apply (metadata_update_of c.args.event) in
    let old = c.index-resources-index.result in
    let new = c.renew_record.new.resource in
    let is =
    renewed_in_place a.given unplanned (resource_of old) (resource_of new) refl
    (subst (λ (r : Resource). resource_of new ≡ with_metadata (object_at a.given.key None) a.given.dependencies a.given.create_before_destroy (resource_of r)) (sym c.index-resources-index.is) c.renew_record.ensures.renewed) in
    let keeps = subst (λ (r : Resource). (n : ℕ) → HasRoomForRecords n r → HasRoomForRecords n new) (sym c.index-resources-index.is) c.renew_record.ensures.room in
    room_kept count c.args.resources.now c.in-Ok.index old new (read_at a.addr c.args.resources.now c.in-Ok.index old c.in-Ok.ensures.found c.index-resources-index.is) is.addr keeps room
