-- Configurations whose names are checked.
use Rattle.tf_cli_inputs.specs.declared.configuration.ConfigurationParts.{ConfigurationParts}
use Rattle.tf_config_data.specs.Config.{config_of}
use Rattle.tf_config_data.specs.Names.{names_of}
use Rattle.tf_config_json.specs.Reading.{IsWithinCounts}
use Rattle.tf_config_names.specs.Needs.{IsAcyclic, IsDependence}

-- The dependence is the one of the configuration's names, no name needs itself, and the blocks are within the limits.
pub record IsChecked (c : ConfigurationParts) : Type 0 where
  pub dependence : IsDependence (names_of (config_of c.config)) c.dependence
  pub acyclic : IsAcyclic c.dependence
  pub counts : IsWithinCounts (config_of c.config)
