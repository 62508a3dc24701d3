use Rattle.std.proofs.Common.{◌∙◌, ap, refl}
use Rattle.tf_state_next.proofs.Afterwards.{saved_after}
use Rattle.tf_state_next.proofs.Rooms.{put_both, room_for_old}
use Rattle.tf_state_next.specs.After.{record_of_saved}
use Rattle.tf_state_next.specs.Ends.{record_input_of, saved_of}
use Rattle.tf_state_next.specs.Room.{deposed_by, with_any}
use Rattle.tf_state_data.specs.Resource.{resource_of, with_record}
use Rattle.tf_state_next.proofs.record_ends.put_deposing.Goals as goal

pub put-requires : goal.put-requires
put-requires c = c.remove-there.ensures.room 1 c.requires

pub put_any-requires : goal.put_any-requires
put_any-requires c =
    room_for_old c.remove-there.result c.depose.result c.args.resource.now c.remove-there.new.self c.put.new.self c.remove-there.ensures.freed c.depose.ensures.there c.put.ensures.room c.requires

pub returns-clause-after : goal.returns-clause-after
returns-clause-after c =
    let g = record_input_of c.args.given in
    let x = saved_of c.args.object in
    let mid = resource_of c.put.new.self in
    saved_after g x (record_of_saved g x) (resource_of c.args.resource.now) (resource_of c.put_any.new.resource) refl
    (c.put_any.ensures.put ∙ ap (λ k. with_any k mid) (c.depose.ensures.deposed ∙ ap (deposed_by g.deposed_key) c.remove-there.ensures.taken)
    ∙ ap (with_any _) (c.put.ensures.put ∙ ap (with_record (record_of_saved g x)) c.remove-there.ensures.left))

pub returns-clause-room : goal.returns-clause-room
returns-clause-room c n h =
    put_both c.remove-there.result c.depose.result c.args.resource.now c.remove-there.new.self c.put.new.self c.put_any.new.resource c.remove-there.ensures.room c.remove-there.ensures.freed
    c.depose.ensures.there c.put.ensures.room c.put_any.ensures.none c.put_any.ensures.some n h
