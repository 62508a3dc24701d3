-- Why nothing is recovered from a log.
use Rattle.std.specs.Prelude.{◌≡◌, ◌≢◌, ℕ, true, List, IsErr}
use Rattle.tf_cli.specs.Applies.{IsApplied}
use Rattle.tf_cli.specs.Refusals.{AreRefusals}
use Rattle.tf_cli_text.specs.declared.applied.Applied.{Applied}
use Rattle.tf_provider_log.specs.Header.{HeaderView}
use Rattle.tf_plan_planner.specs.Refused.{Tells}
use Rattle.tf_provider_protocol.specs.Meaning.{Meaning}
use Rattle.tf_cli_program.specs.Recovered.{texts_in, used_answers}
use Rattle.tf_cli_program.specs.declared.taking.Unrecovered.{Unrecovered}
use Rattle.tf_cli_program.specs.declared.taking.Unrecovered.TheVariants.{Refused, NotAll, OutOfMemory}

-- Nothing is taken from an apply that used another number of answers, or whose state isn't the prior one and has no text because
-- memory ran out.
abbrev pub IsNotTaken : Applied → ℕ → Unrecovered → Type 0
IsNotTaken a answers NotAll = used_answers a ≢ answers
IsNotTaken a answers OutOfMemory = (used_answers a ≡ answers) × (a.changed ≡ true) × IsErr a.state
IsNotTaken a answers (Refused refused) = ⊥

-- Nothing is recovered if the texts are refused, or if nothing is taken from an apply of them.
abbrev pub IsUnrecovered : List Meaning → HeaderView → ℕ → Unrecovered → Type 0
IsUnrecovered ms given answers (Refused refused) = Tells (AreRefusals ms (texts_in given)) refused
IsUnrecovered ms given answers why = (a : Applied) × IsApplied ms (texts_in given) given.lineage a × IsNotTaken a answers why
