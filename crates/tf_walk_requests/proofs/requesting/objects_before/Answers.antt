use Rattle.std.proofs.Common.{map, ap}
use Rattle.tf_config_names.specs.Table.{names_in}
use Rattle.tf_graph.specs.Digraph.{predecessors_of}
use Rattle.tf_graph.specs.Solutions.{seen_by}
use Rattle.tf_walk_requests.specs.Asks.{results_with}
use Rattle.tf_plan_data.specs.Action.{action_of}
use Rattle.tf_plan_data.specs.Plan.{plan_of}
use Rattle.tf_walk_action.proofs.Calling.{seen_objects}
use Rattle.tf_walk_requests.proofs.requesting.objects_before.Goals as goal

pub returns : goal.returns
returns g c =
    let plan = plan_of c.args.plan.now in
    let seen = seen_by (results_with (g.R.Results.objects c.args.results.now)) in
    seen_objects plan (names_in c.args.names.now) (map action_of c.as_slice.result.now) (seen c.predecessors.result.now) (seen (predecessors_of plan.order c.args.action)) c.requires.names (ap (map action_of) c.as_slice.ensures.value)
    (ap seen (rw c.graph.ensures.graph at c.predecessors.ensures.nodes))
