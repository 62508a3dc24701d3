use Rattle.tf_config_json.proofs.Existing.{configuration_there}
use Rattle.tf_config_json.proofs.One.{configuration_one}
use Rattle.tf_config_json.proofs.laws.faultless_trees_stand.Goals as goal

pub returns : goal.returns
returns c = record { faultless = λ tree config h. h.checks; stands = configuration_there; one = configuration_one }
