-- The content of the texts that a user gives.
use Rattle.std.specs.Prelude.{◌≡◌, ◌≤◌, ℕ, List, length, Option, Some, None}
use Rattle.serde_json.specs.Data.{Data}
use Rattle.tf_config_json.specs.Configuration.{IsConfiguration}
use Rattle.tf_config_json.specs.Demand.{AreMet}
use Rattle.tf_config_json.specs.Reading.{IsTree, IsWithinCounts, max_bytes}
use Rattle.tf_config_data.specs.Config.{ConfigView}
use Rattle.tf_config_data.specs.Names.{names_of}
use Rattle.tf_config_names.specs.Judging.{AllAreKnown}
use Rattle.tf_config_names.specs.Needs.{Needs}
use Rattle.tf_state.specs.Table.{IsPlannable, Reads}
use Rattle.tf_state_data.specs.State.{StateView, empty_state}
use Rattle.tf_expr_syntax.specs.TemplateNames.{Pair}
use Rattle.tf_value_data.specs.Tree.{Entries}
use Rattle.tf_config_json.specs.VariablesRead.{IsFileOf}
use Rattle.tf_config_json.specs.Values.{AreValues, file_checks}

-- the texts that a user gives: a configuration, and optionally a variables file and a prior state
pub record Texts : Type 0 where
  pub config : List ℕ
  pub vars : Option (List ℕ)
  pub state : Option (List ℕ)

abbrev pub the_texts : List ℕ → Option (List ℕ) → Option (List ℕ) → Texts
the_texts config vars state = record { config = config; vars = vars; state = state }

-- The text is a configuration within the limits.
pub record IsRead (bytes : List ℕ) (config : ConfigView) : Type 0 where
  pub tree : Data
  pub is_tree : IsTree bytes tree
  pub stands : IsConfiguration tree config
  pub size : length bytes ≤ max_bytes
  pub counts : IsWithinCounts config

-- Each name in a configuration is known at its place, and no name needs itself.
pub record AreNamesGood (config : ConfigView) : Type 0 where
  pub known : AllAreKnown config
  pub acyclic : (pair : Pair) → Needs (names_of config) pair pair → ⊥

-- Each variable has the value in the variables file, or its default if the file gives it no value.
pub record AreTheValues (vars : Option (List ℕ)) (config : ConfigView) (values : Entries) : Type 0 where
  pub file : Option Data
  pub is_file : IsFileOf vars file
  pub literal : AreMet (file_checks file config.variables)
  pub valued : AreValues file config.variables values

-- The prior state: the given one, which must be one that can be planned from; or the empty one of a lineage, if none
-- is given.
abbrev pub IsPrior : Option (List ℕ) → List ℕ → StateView → Type 0
IsPrior None lineage prior = prior ≡ empty_state lineage
IsPrior (Some bytes) lineage prior = Reads bytes prior × IsPlannable prior

-- Texts read as a configuration with the values of its variables, and as a prior state. Without a state's text, the
-- prior state is the empty one of the lineage.
pub record ReadAs (texts : Texts) (lineage : List ℕ) (config : ConfigView) (values : Entries) (prior : StateView) : Type 0 where
  pub read : IsRead texts.config config
  pub names : AreNamesGood config
  pub valued : AreTheValues texts.vars config values
  pub before : IsPrior texts.state lineage prior
