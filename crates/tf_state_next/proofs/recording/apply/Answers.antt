use Rattle.std.proofs.Common.{◌+◌, ℕ, None, [], map, sym, subst}
use Rattle.tf_state_next.proofs.Changing.{changed_in, found_at, found_addr, read_at, room_here, room_taken}
use Rattle.tf_state_next.proofs.OneByOne.{one_applied}
use Rattle.tf_state_next.specs.Events.{apply_of}
use Rattle.tf_state_next.specs.After.{IsAfter}
use Rattle.tf_state_next.specs.Room.{records_more}
use Rattle.tf_state_data.specs.Resource.{HasRoomForRecords, resource_of}
use Rattle.tf_state_data.specs.declared.resource.Resource.{Resource}
use Rattle.tf_state_next.proofs.recording.apply.Goals as goal

pub record_apply-requires : goal.record_apply-requires
record_apply-requires c =
    let a = apply_of c.args.event in
    let old = c.index-resources-index.result in
    let was = read_at a.addr c.args.resources.now c.in-Ok.index old c.in-Ok.ensures.found c.index-resources-index.is in
    let at = sym (found_addr a.addr (map resource_of c.args.resources.now) (resource_of old) (found_at a.addr c.args.resources.now c.in-Ok.index old c.in-Ok.ensures.found c.index-resources-index.is)) in
    subst (λ (r : Resource). HasRoomForRecords (records_more a.applied) r) c.index-resources-index.is (room_here a.addr c.args.resources.now c.in-Ok.index old a.applied was at c.requires.room)

pub returns-clause-recorded : goal.returns-clause-recorded
returns-clause-recorded c =
    let a = apply_of c.args.event in
    let old = c.index-resources-index.result in
    let new = c.record_apply.new.resource in
    let is =
    subst (λ (r : Resource). IsAfter a.given (record { applied = a.applied; destroyed = None; deposed = [] }) (resource_of r) (resource_of new)) (sym c.index-resources-index.is) c.record_apply.ensures.after in
    one_applied a (map resource_of c.args.resources.now) (map resource_of _) (resource_of old) (resource_of new)
    (changed_in a.addr c.args.resources.now c.in-Ok.index old new c.in-Ok.ensures.found c.index-resources-index.is is.addr is.provider) is

pub returns-clause-room : goal.returns-clause-room
returns-clause-room c addrs room =
    let a = apply_of c.args.event in
    let old = c.index-resources-index.result in
    let new = c.record_apply.new.resource in
    let was = read_at a.addr c.args.resources.now c.in-Ok.index old c.in-Ok.ensures.found c.index-resources-index.is in
    let at = sym (found_addr a.addr (map resource_of c.args.resources.now) (resource_of old) (found_at a.addr c.args.resources.now c.in-Ok.index old c.in-Ok.ensures.found c.index-resources-index.is)) in
    let is =
    subst (λ (r : Resource). IsAfter a.given (record { applied = a.applied; destroyed = None; deposed = [] }) (resource_of r) (resource_of new)) (sym c.index-resources-index.is) c.record_apply.ensures.after in
    let takes = subst (λ (r : Resource). (n : ℕ) → HasRoomForRecords (n + records_more a.applied) r → HasRoomForRecords n new) (sym c.index-resources-index.is) c.record_apply.ensures.room in
    room_taken addrs a.addr c.args.resources.now c.in-Ok.index old new a.applied was at is.addr takes room
