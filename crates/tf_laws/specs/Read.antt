-- Properties of configurations and variables that were read.
use Rattle.std.specs.Prelude.{◌≡◌, ℕ, List, Option, Some}
use Rattle.serde_json.specs.Data.{Data}
use Rattle.tf_config_json.specs.Configuration.{IsConfiguration}
use Rattle.tf_config_data.specs.Config.{ConfigView}
use Rattle.tf_provider_protocol.specs.Meaning.{Meaning, schema_in}
use Rattle.tf_provider_protocol.specs.Schema.{SchemaView, IsSchema}
use Rattle.tf_state.specs.Valid.{IsValid}
use Rattle.tf_state_data.specs.State.{StateView}
use Rattle.tf_value_data.specs.Tree.{Entries}
use Rattle.tf_config_json.specs.Values.{AreValues}
use Rattle.tf_laws.specs.Reapply.{IsSound}
use Rattle.tf_laws.specs.Twice.{HasOrderedOutputs, HasOwnNames}

-- The inputs of a plan are sound, if the configuration was read, its variables have these values from a variables file or by
-- default, providers have schemas, and the prior state is valid.
abbrev pub ReadIsSound : Type 0
ReadIsSound =
    (ms : List Meaning) (tree : Data) (config : ConfigView) (file : Option Data) (values : Entries) (prior : StateView)
    → IsConfiguration tree config → AreValues file config.variables values
    → ((name : List ℕ) (schema : SchemaView) → schema_in name ms ≡ Some schema → IsSchema schema) → IsValid prior → IsSound ms config values prior

-- In a configuration that was read, each name means one thing, and outputs are in byte order of their names.
abbrev pub ReadHasOwnNames : Type 0
ReadHasOwnNames = (tree : Data) (config : ConfigView) → IsConfiguration tree config → HasOwnNames config × HasOrderedOutputs config
