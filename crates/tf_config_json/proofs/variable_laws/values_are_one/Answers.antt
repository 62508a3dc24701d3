use Rattle.tf_config_json.proofs.ValueLaws.{values_one, values_faultless, faultless_values}
use Rattle.tf_config_json.proofs.variable_laws.values_are_one.Goals as goal

pub returns : goal.returns
returns c = record { one = values_one; faultless = values_faultless; values = faultless_values }
