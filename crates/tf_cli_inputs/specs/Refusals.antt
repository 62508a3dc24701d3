-- The refusals of the texts that a user gives.
use Rattle.std.specs.Prelude.{◌≡◌, ◌⊎◌, ℕ, codes, List, Option, Some, None}
use Rattle.tf_config_json.specs.Reading.{IsRefused}
use Rattle.tf_config_data.specs.Config.{ConfigView}
use Rattle.tf_config_names.specs.Judging.{RefusesItsNames}
use Rattle.tf_config_refusal.specs.declared.code.Code.{Code}
use Rattle.tf_config_refusal.specs.declared.code.Code.TheVariants as code
use Rattle.tf_config_refusal.specs.Refusal.{RefusalView, no_memory, fault, bare}
use Rattle.tf_state.specs.Table.{IsUnread}
use Rattle.tf_state.specs.declared.fault.StateFault.{StateFault}
use Rattle.tf_state.specs.declared.fault.StateFault.TheVariants.{BadState, Limit, OutOfMemory}
use Rattle.tf_value_data.specs.Tree.{Entries}
use Rattle.tf_config_json.specs.VariablesRead as variables
use Rattle.tf_cli_inputs.specs.Texts.{Texts, IsRead, AreNamesGood, AreTheValues}

-- The text is a configuration, and its names are refused.
pub record AreNamesRefused (texts : Texts) (refusal : RefusalView) : Type 0 where
  pub config : ConfigView
  pub read : IsRead texts.config config
  pub refused : RefusesItsNames config refusal

-- The text is refused as a configuration, or its names are.
abbrev pub IsConfigurationRefused : List ℕ → RefusalView → Type 0
IsConfigurationRefused text refusal = IsRefused text refusal ⊎ ((config : ConfigView) × IsRead text config × RefusesItsNames config refusal)

-- The text is a configuration with good names, and the variables file or a variable is refused.
pub record AreValuesRefused (texts : Texts) (refusal : RefusalView) : Type 0 where
  pub config : ConfigView
  pub read : IsRead texts.config config
  pub names : AreNamesGood config
  pub refused : variables.IsRefused texts.vars config.variables refusal

-- a refusal placed at `state`
abbrev pub at_state : Code → RefusalView
at_state code = fault code (codes "state") bare

-- The refusal of a fault of the state's text: 13 if it is no state's, 14 if the state is beyond a limit.
abbrev pub fault_told : StateFault → RefusalView
fault_told BadState = at_state code.BadState
fault_told Limit = at_state code.Limit
fault_told OutOfMemory = no_memory

-- the state's text has a fault with this refusal
pub record HasFault (bytes : List ℕ) (refusal : RefusalView) : Type 0 where
  pub why : StateFault
  pub unread : IsUnread bytes why
  pub refused : refusal ≡ fault_told why

-- If no state is given, the only refusal is out of memory.
abbrev pub IsToldOfState : Option (List ℕ) → RefusalView → Type 0
IsToldOfState None refusal = refusal ≡ no_memory
IsToldOfState (Some bytes) refusal = HasFault bytes refusal

-- The configuration and its variables are good, and the state is refused.
pub record IsStateRefused (texts : Texts) (refusal : RefusalView) : Type 0 where
  pub config : ConfigView
  pub values : Entries
  pub read : IsRead texts.config config
  pub names : AreNamesGood config
  pub valued : AreTheValues texts.vars config values
  pub refused : IsToldOfState texts.state refusal

-- The refusals of texts that can't be read, in the order of tests: of the configuration's text, of its names, of the
-- variables, of the state. Any texts may be refused because memory ran out.
abbrev pub IsToldOf : Texts → RefusalView → Type 0
IsToldOf texts refusal =
    IsRefused texts.config refusal ⊎ (AreNamesRefused texts refusal ⊎ (AreValuesRefused texts refusal ⊎ IsStateRefused texts refusal))
