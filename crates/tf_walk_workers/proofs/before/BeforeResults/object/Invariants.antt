-- none of the actions passed is of the instance
use Rattle.std.proofs.Common.{◌≡◌, map, drop}
use Rattle.tf_config_address.specs.ObjectId.{instance_key_of}
use Rattle.tf_config_names.specs.Table.{names_in}
use Rattle.tf_walk_action.specs.Objects.{objects_seen}
use Rattle.tf_plan_data.specs.Action.{action_of}
use Rattle.tf_state_data.specs.State.{state_of}
use Rattle.tf_walk_workers.specs.Reading.{seen_in}
use Rattle.tf_walk_workers.proofs.before.BeforeResults.object.Given as goal

abbrev pub invariant-loop-reading : goal.invariant-loop-reading
invariant-loop-reading g l =
    objects_seen (names_in l.self.names.now) (state_of l.self.prior.now) (map action_of l.self.actions.now) (map seen_in (drop l.reading-index l.reading-items)) l.place (instance_key_of l.key)
    ≡ objects_seen (names_in l.self.names.now) (state_of l.self.prior.now) (map action_of l.self.actions.now) (map seen_in l.self.readings.items) l.place (instance_key_of l.key)
