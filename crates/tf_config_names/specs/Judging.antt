-- How a configuration is refused for its names.
use Rattle.std.specs.Prelude.{◌⊎◌}
use Rattle.tf_config_data.specs.Config.{ConfigView}
use Rattle.tf_config_data.specs.Names.{names_of}
use Rattle.tf_config_refusal.specs.Refusal.{RefusalView}
use Rattle.tf_config_names.specs.Cyclic.{RefusesCycle}
use Rattle.tf_config_names.specs.KnownNames.{declared_in, config_checks, AreKnown, RefusesNames}

-- each name is known in its context
abbrev pub AllAreKnown : ConfigView → Type 0
AllAreKnown c = AreKnown (declared_in c) (config_checks c)

-- The refusal reports the first name that isn't known or, if each is known, the names that need themselves.
abbrev pub RefusesItsNames : ConfigView → RefusalView → Type 0
RefusesItsNames c refusal = RefusesNames (declared_in c) (config_checks c) refusal ⊎ (AllAreKnown c × RefusesCycle (names_of c) refusal)
