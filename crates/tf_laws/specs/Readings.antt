-- What texts read as, if they are read more than once.
use Rattle.std.specs.Prelude.{◌≡◌, ℕ, List, []}
use Rattle.tf_config_data.specs.Config.{ConfigView}
use Rattle.tf_cli_inputs.specs.Texts.{ReadAs, Texts}
use Rattle.tf_state_data.specs.State.{StateView}
use Rattle.tf_value_data.specs.Tree.{Entries}

-- Texts read as one configuration, one list of values of its variables and one prior state, if a new state has the same
-- lineage.
abbrev pub TextsReadAsOne : Type 0
TextsReadAsOne =
    (texts : Texts) (lineage : List ℕ) (config config_again : ConfigView) (values values_again : Entries) (prior prior_again : StateView)
    → ReadAs texts lineage config values prior → ReadAs texts lineage config_again values_again prior_again
    → (config_again ≡ config) × (values_again ≡ values) × (prior_again ≡ prior)

-- a state but for its lineage
abbrev pub without_lineage : StateView → StateView
without_lineage s = record s { lineage = [] }

-- With different lineages they also read as one configuration and one list of values. The prior states differ only in their
-- lineages.
abbrev pub TextsReadAsOneApart : Type 0
TextsReadAsOneApart =
    (texts : Texts) (lineage other : List ℕ) (config config_again : ConfigView) (values values_again : Entries) (prior prior_again : StateView)
    → ReadAs texts lineage config values prior → ReadAs texts other config_again values_again prior_again
    → (config_again ≡ config) × (values_again ≡ values) × (without_lineage prior_again ≡ without_lineage prior)
