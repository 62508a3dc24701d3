-- The outcome of an apply with the providers of the programs.
use Rattle.std.specs.Prelude.{List, Result, Ok, Err, string_bytes}
use Rattle.tf_cli.specs.Applies.{IsApplied}
use Rattle.tf_cli.specs.Refusals.{AreRefusals}
use Rattle.tf_cli_files.specs.declared.given.ProgramInput.{ProgramInput}
use Rattle.tf_cli_program.specs.Work.{texts_of}
use Rattle.tf_cli_text.specs.declared.applied.Applied.{Applied}
use Rattle.tf_plan_planner.specs.Refused.{Tells}
use Rattle.tf_plan_planner.specs.declared.refused.Refused.{Refused}
use Rattle.tf_provider_protocol.specs.Meaning.{Meaning}

-- the answer of an apply of what was given: its outcome, or what is refused
abbrev pub IsOutcome : List Meaning → ProgramInput → Result Applied Refused → Type 0
IsOutcome ms given (Ok applied) = IsApplied ms (texts_of given) (string_bytes given.options.lineage) applied
IsOutcome ms given (Err refused) = Tells (AreRefusals ms (texts_of given)) refused
