use Rattle.tf_config_data.specs.Config.{config_of}
use Rattle.tf_plan_planner.proofs.Blocks.{blocks-sorted, names-apart}
use Rattle.tf_plan_planner.proofs.planner.blocks_are_apart.Goals as goal

pub returns : goal.returns
returns c = names-apart (config_of c.args.config.now) (blocks-sorted c.args.config.now.resources.entries c.len.ensures.ordered)
