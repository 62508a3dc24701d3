-- The invariant of a module.
use Rattle.tf_config_names.specs.Needs.{IsAcyclic, IsDependence}
use Rattle.tf_config_names.specs.Table.{names_in}
use Rattle.tf_expand_keys.specs.declared.table.ModuleParts.{ModuleParts}

-- The dependence is that of these names, and no name needs itself.
pub record IsModule (m : ModuleParts) : Type 0 where
  pub dependence : IsDependence (names_in m.names.now) m.dependence.now
  pub acyclic : IsAcyclic m.dependence.now
