use Rattle.std.proofs.Common.{◌∙◌}
use Rattle.tf_config_names.proofs.Tests.{has_variable-lookup}
use Rattle.tf_config_names.proofs.known_names.has_variable.Goals as goal

pub returns : goal.returns
returns c = c.contains_key.ensures ∙ has_variable-lookup c.args.name.now c.args.variables.now.entries
