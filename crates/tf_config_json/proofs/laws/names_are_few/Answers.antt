use Rattle.tf_config_json.proofs.Counts.{few_names}
use Rattle.tf_config_json.proofs.laws.names_are_few.Goals as goal

pub returns : goal.returns
returns c = few_names
