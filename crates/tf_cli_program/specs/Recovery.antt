-- How a program continues after an unfinished apply.
use Rattle.std.specs.Prelude.{◌≡◌, ◌≢◌, ◌⊎◌, ℕ, List, [], Option, Some, codes, option_map, string_bytes}
use Rattle.std.specs.Option.{option_or}
use Rattle.tf_provider_protocol.specs.Meaning.{Meaning}
use Rattle.tf_cli_program.specs.Recovered.{IsRecovered}
use Rattle.tf_cli_files.specs.declared.given.ProgramInput.{ProgramInput}
use Rattle.tf_cli_options.specs.declared.words.Options.{Options}
use Rattle.tf_cli_program.specs.declared.recovery_status.RecoveryStatus.{RecoveryStatus}
use Rattle.tf_cli_program.specs.declared.recovery_status.RecoveryStatus.TheVariants.{Before, After}
use Rattle.tf_cli_files.specs.declared.unfinished.UnfinishedApply.{UnfinishedApply}

-- the text of the state that a program was given
abbrev pub state_given : ProgramInput → Option (List ℕ)
state_given given = option_map (λ bytes. bytes.items) given.state

-- the text of the state after an apply: the recovered one, or the one before if the apply changed nothing
abbrev pub state_after : Option (List ℕ) → Option (List ℕ) → Option (List ℕ)
state_after before recovered = option_or recovered before

-- The given state is the one before the apply, and the recovered text has to replace it; or it is the one after the apply.
abbrev pub IsStatus : Option (List ℕ) → Option (List ℕ) → Option (List ℕ) → RecoveryStatus → Type 0
IsStatus before recovered given (Before text) = (given ≡ before) × (option_map string_bytes text ≡ recovered)
IsStatus before recovered given After = (given ≢ before) × (given ≡ state_after before recovered)

-- The state that these providers recover, and how the given state compares with it.
pub record IsRecoveryStatus (ms : List Meaning) (unfinished : UnfinishedApply) (given : ProgramInput) (status : RecoveryStatus) : Type 0 where
  pub recovered : Option (List ℕ)
  pub is_recovered : IsRecovered ms unfinished.header unfinished.answers recovered
  pub compared : IsStatus unfinished.header.state recovered (state_given given) status

-- A program continues from what it was given, with the state after the unfinished apply in place of the given one.
pub record ContinuesFrom (ms : List Meaning) (unfinished : UnfinishedApply) (old new : ProgramInput) : Type 0 where
  pub recovered : Option (List ℕ)
  pub is_recovered : IsRecovered ms unfinished.header unfinished.answers recovered
  pub options : new.options ≡ old.options
  pub config : new.config ≡ old.config
  pub vars : new.vars ≡ old.vars
  pub state : state_given new ≡ state_after unfinished.header.state recovered

-- the options say that the calls in flight weren't made
abbrev pub IsRetried : Options → Type 0
IsRetried options = option_map string_bytes options.in_flight ≡ Some (codes "retry")

-- No call is in flight, or the options say that the calls in flight weren't made.
abbrev pub IsInspected : UnfinishedApply → Options → Type 0
IsInspected unfinished options = (unfinished.in_flight.items ≡ []) ⊎ IsRetried options

-- a text replaces the given state, if there is one, and all else stays
pub record IsReplaced (text : Option (List ℕ)) (old new : ProgramInput) : Type 0 where
  pub options : new.options ≡ old.options
  pub config : new.config ≡ old.config
  pub vars : new.vars ≡ old.vars
  pub state : state_given new ≡ option_or text (state_given old)
