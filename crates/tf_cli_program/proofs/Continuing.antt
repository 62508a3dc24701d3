-- From the status of a recovery to what the program continues from.
use Rattle.std.proofs.Common.{Global, Result, Ok, Err, ◌∙◌, ℕ, List, Option, None, refl, ap, option_map, string_bytes}
use Rattle.std.specs.Prelude.{IfOk}
use Rattle.std.specs.Option.{option_or}
use Rattle.std.specs.declared.string.String.{String}
use Rattle.tf_provider_protocol.specs.Meaning.{Meaning}
use Rattle.tf_cli_program.specs.Recovery.{ContinuesFrom, IsRecoveryStatus, IsReplaced, state_given}
use Rattle.tf_cli_files.specs.declared.given.ProgramInput.{ProgramInput}
use Rattle.tf_cli_program.specs.declared.recovery_status.RecoveryStatus.TheVariants.{Before, After}
use Rattle.tf_cli_files.specs.declared.unfinished.UnfinishedApply.{UnfinishedApply}

module _ (ms : List Meaning) (unfinished : UnfinishedApply) where
  pub after_continues : (given : ProgramInput) → IsRecoveryStatus ms unfinished given After → ContinuesFrom ms unfinished given given
  after_continues given h = record { recovered = h.recovered; is_recovered = h.is_recovered; options = refl; config = refl; vars = refl; state = h.compared.1 }

  pub before_continues : (old new : ProgramInput) (text : Option (String Global)) → IsRecoveryStatus ms unfinished old (Before text) → IsReplaced (option_map string_bytes text) old new → ContinuesFrom ms unfinished old new
  before_continues old new text h put = record {
    recovered = h.recovered;
    is_recovered = h.is_recovered;
    options = put.options;
    config = put.config;
    vars = put.vars;
    state = put.state ∙ (ap (λ (r : Option (List ℕ)). option_or r (state_given old)) h.compared.1 ∙ ap (λ (b : Option (List ℕ)). option_or h.recovered b) h.compared.0);
  }

  -- without a text the state stays
  pub unchanged_continues : (given : ProgramInput) → IsRecoveryStatus ms unfinished given (Before None) → ContinuesFrom ms unfinished given given
  unchanged_continues given h = before_continues given given None h (record { options = refl; config = refl; vars = refl; state = refl })

-- what holds anyway holds if a result is Ok
pub anyway : {X E P : Type 0} (r : Result X E) → P → IfOk r (λ _. P)
anyway (Ok x) p = p
anyway (Err e) p = tt
