use Rattle.std.proofs.Common.{map}
use Rattle.tf_config_data.specs.Config.{config_of}
use Rattle.tf_state_data.specs.State.{state_of}
use Rattle.tf_value_data.specs.Tree.{entries_view}
use Rattle.tf_cli.proofs.Planned.{refused-within}
use Rattle.tf_cli.proofs.planning.planned_from.Goals as goal

pub returns-in-Err-clause-refused : goal.returns-in-Err-clause-refused
returns-in-Err-clause-refused g c =
    refused-within _ (config_of c.args.inputs.configuration.config) (entries_view c.args.inputs.values.entries) (state_of c.args.inputs.prior) c.in-Err.unplanned.refused c.requires.plannable c.in-Err.ensures.refused
