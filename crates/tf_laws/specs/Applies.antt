-- What two applies of the same texts have in common.
use Rattle.std.specs.Prelude.{◌≡◌, List, ℕ, Ok, String, string_bytes}
use Rattle.std.specs.declared.alloc.Global.{Global}
use Rattle.tf_cli.specs.Applies.{IsApplied}
use Rattle.tf_cli_text.specs.declared.applied.Applied.{Applied}
use Rattle.tf_cli_inputs.specs.Texts.{Texts}
use Rattle.tf_laws.specs.One.{TellTheSame}
use Rattle.tf_provider_protocol.specs.Meaning.{Meaning}
use Rattle.tf_walk_report.specs.Report.{report_of}

-- Two applies return the same answer: the plan's text; outcomes, state, diagnostics and numbers of good actions; whether the
-- state differs from the prior one; and the state's text, if there was memory for both.
pub record AnswerTheSame (first second : Applied) : Type 0 where
  pub shown : string_bytes first.plan ≡ string_bytes second.plan
  pub told : TellTheSame (report_of first.walked) (report_of second.walked)
  pub text : (saved other : String Global) → first.state ≡ Ok saved → second.state ≡ Ok other → string_bytes saved ≡ string_bytes other
  pub changed : first.changed ≡ second.changed

-- Two applies of the same texts do, if a new state has one lineage and they have the same excuses.
abbrev pub AppliesAreOne : Type 0
AppliesAreOne =
    (ms : List Meaning) (texts : Texts) (lineage : List ℕ) (first second : Applied) → IsApplied ms texts lineage first → IsApplied ms texts lineage second
    → (report_of first.walked).excused.items ≡ (report_of second.walked).excused.items → AnswerTheSame first second
