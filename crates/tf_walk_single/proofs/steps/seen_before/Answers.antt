use Rattle.std.proofs.Common.{map, ap}
use Rattle.tf_config_names.specs.Table.{names_in}
use Rattle.tf_plan_data.specs.Action.{action_of}
use Rattle.tf_plan_data.specs.Plan.{plan_of}
use Rattle.tf_walk_single.proofs.Memos.{seen_behind}
use Rattle.tf_walk_single.proofs.steps.seen_before.Goals as goal

pub returns : goal.returns
returns c =
    seen_behind (plan_of c.args.plan.now) (names_in c.args.names.now) (map action_of c.as_slice.result.now) c.args.results.now c.predecessors.result.now c.args.action
    c.requires.names (ap (map action_of) c.as_slice.ensures.value) (rw c.graph.ensures.graph at c.predecessors.ensures.nodes)
