use Rattle.std.proofs.Common.{ap, ◌∙◌, option_and_then}
use Rattle.tf_config_address.specs.ObjectId.{object_id_of}
use Rattle.tf_state_next.proofs.Afterwards.{destroyed_set}
use Rattle.tf_state_next.proofs.Rooms.{put_back}
use Rattle.tf_state_next.specs.After.{left_of_record}
use Rattle.tf_state_next.specs.Ends.{left_of}
use Rattle.tf_state_next.specs.Room.{with_any}
use Rattle.tf_state_data.specs.Resource.{resource_of}
use Rattle.tf_state_next.proofs.record_ends.record_destroy.Goals as goal

pub returns-clause-after : goal.returns-clause-after
returns-clause-after c =
    let id = object_id_of c.args.id.now in
    let r = resource_of c.args.resource.now in
    destroyed_set id (left_of c.args.left) r (resource_of c.put_any.new.resource)
    (c.put_any.ensures.put ∙ ap (λ kept. with_any kept (resource_of c.remove-there.new.self)) (c.leave.ensures.left ∙ ap (option_and_then (left_of_record (left_of c.args.left))) c.remove-there.ensures.taken)
    ∙ ap (with_any _) c.remove-there.ensures.left)

pub returns-clause-room : goal.returns-clause-room
returns-clause-room c =
    put_back c.remove-there.result c.leave.result c.args.resource.now c.remove-there.new.self c.put_any.new.resource c.remove-there.ensures.room c.remove-there.ensures.freed c.leave.ensures.there c.put_any.ensures.none c.put_any.ensures.some
