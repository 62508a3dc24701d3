-- some action is about it where one of those that are left is
use Rattle.std.proofs.Common.{◌≡◌, map, drop}
use Rattle.std.specs.List.{list_any}
use Rattle.tf_plan_data.specs.Action.{action_of}
use Rattle.tf_config_address.specs.ObjectId.{instance_key_of}
use Rattle.tf_walk_buffers.specs.MetadataUpdates.{is_about}
use Rattle.tf_walk_buffers.proofs.unchanged.is_any_about.Given as goal

abbrev pub invariant-loop-action : goal.invariant-loop-action
invariant-loop-action l =
    list_any (is_about l.number (instance_key_of l.key)) (map action_of l.actions) ≡ list_any (is_about l.number (instance_key_of l.key)) (map action_of (drop l.action-index l.actions))
