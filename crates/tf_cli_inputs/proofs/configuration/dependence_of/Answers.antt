use Rattle.tf_config_data.specs.Config.{config_of}
use Rattle.tf_cli_inputs.proofs.Named.{are_good_where_ok}
use Rattle.tf_cli_inputs.proofs.configuration.dependence_of.Goals as goal

pub returns-clause-good : goal.returns-clause-good
returns-clause-good c = are_good_where_ok (config_of c.args.config.now) c.check_names.result c.check_names.ensures.known c.check_names.ensures.dependence c.check_names.ensures.acyclic
