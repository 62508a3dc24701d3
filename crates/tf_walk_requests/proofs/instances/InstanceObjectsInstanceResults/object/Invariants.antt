-- none of the actions passed is of the instance
use Rattle.std.proofs.Common.{◌≡◌, map, drop}
use Rattle.tf_config_address.specs.ObjectId.{instance_key_of}
use Rattle.tf_config_names.specs.Table.{names_in}
use Rattle.tf_graph.specs.Solutions.{seen_by}
use Rattle.tf_walk_requests.specs.Asks.{results_with}
use Rattle.tf_plan_data.specs.Action.{action_of}
use Rattle.tf_state_data.specs.State.{state_of}
use Rattle.tf_walk_action.specs.Objects.{objects_seen}
use Rattle.tf_walk_requests.proofs.instances.InstanceObjectsInstanceResults.object.Given as goal

abbrev pub invariant-loop-action : goal.invariant-loop-action
invariant-loop-action g l =
    let seen = seen_by (results_with (g.R.Results.objects l.self.results.now)) in
    objects_seen (names_in l.self.names.now) (state_of l.self.prior.now) (map action_of l.self.actions.now) (seen (drop l.action-index l.action-items)) l.place (instance_key_of l.key)
    ≡ objects_seen (names_in l.self.names.now) (state_of l.self.prior.now) (map action_of l.self.actions.now) (seen l.self.before.now) l.place (instance_key_of l.key)
