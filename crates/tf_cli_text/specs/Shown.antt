-- The output of an apply before it writes the state, and its exit status.
use Rattle.std.specs.Prelude.{ℕ, Bool, true, false, not, ◌&&◌, if◌then◌else◌, List, [], ◌∷◌, ◌++◌, codes, decimal, Option, Some, None, Result, Ok, Err, is_err, option_map, string_bytes}
use Rattle.std.specs.List.{flat_map, list_all}
use Rattle.std.specs.Result.{result_ok}
use Rattle.tf_config_refusal.specs.Code.{number_of}
use Rattle.tf_config_refusal.specs.Refusal.{no_memory, refusal_of}
use Rattle.tf_cli_lines.specs.Lines.{refusal_line, unwritten_line, verb_text}
use Rattle.tf_plan_planner.specs.declared.refused.Refused.{Refused}
use Rattle.tf_plan_planner.specs.declared.refused.Refused.TheVariants.{NoMemory, These}
use Rattle.tf_provider_protocol.specs.Verdict.{is_good_verdict}
use Rattle.tf_walk_action.specs.declared.excuse.Outcome.{Outcome}
use Rattle.tf_walk_action.specs.declared.excuse.Outcome.TheVariants as outcome
use Rattle.tf_walk_report.specs.Diagnostics.{DiagnosticView, diagnostic_of}
use Rattle.tf_walk_report.specs.Report.{report_of}
use Rattle.tf_walk_report.specs.declared.diagnostic.Diagnostic.{Diagnostic}
use Rattle.tf_walk_report.specs.declared.report.Report.{Report}
use Rattle.tf_walk_report.specs.declared.report.Walked.{Walked}
use Rattle.tf_walk_report.specs.declared.report.Walked.TheVariants.{Whole, Torn}
use Rattle.tf_cli_text.specs.declared.applied.Applied.{Applied}

abbrev pub is_torn : Walked → Bool
is_torn (Whole report) = false
is_torn (Torn report) = true

-- each refusal on a line, in order
abbrev pub refused_errors : Refused → List ℕ
refused_errors NoMemory = refusal_line no_memory
refused_errors (These refusals) = flat_map (λ r. refusal_line (refusal_of r)) refusals.items

-- ---- diagnostics

-- `error CODE at ADDRESS VERB: MESSAGE`, where the verb includes the space before it
abbrev pub error_line : ℕ → List ℕ → List ℕ → List ℕ → List ℕ
error_line code place verb message =
    codes "error " ++ (decimal code ++ (codes " at " ++ (place ++ (verb ++ (codes ": " ++ (message ++ 10 ∷ []))))))

-- the line of a diagnostic
abbrev pub diagnostic_line : DiagnosticView → List ℕ
diagnostic_line d = error_line (number_of d.code) d.place (verb_text d.verb) d.message

-- each diagnostic on a line, in order
abbrev pub diagnostic_lines : List Diagnostic → List ℕ
diagnostic_lines ds = flat_map (λ d. diagnostic_line (diagnostic_of d)) ds

-- ---- the summary

abbrev pub is_good_outcome : Outcome → Bool
is_good_outcome (outcome.Judged v) = is_good_verdict v
is_good_outcome _ = false

abbrev pub is_empty : List Diagnostic → Bool
is_empty [] = true
is_empty (d ∷ ds) = false

-- Each action is good, and there are no diagnostics. If each action is good, any diagnostic is of an output.
abbrev pub all_good : Report → Bool
all_good report = list_all is_good_outcome report.outcomes.items && is_empty report.diagnostics.items

-- the beginning of the summary
abbrev pub summary_opening : Bool → List ℕ
summary_opening complete = if complete then codes "Apply complete! Resources: " else codes "Apply incomplete. Resources: "

-- how many objects were added, changed and destroyed
abbrev pub counts : List ℕ → ℕ → ℕ → ℕ → List ℕ
counts opening added changed destroyed =
    opening ++ (decimal added ++ (codes " added, " ++ (decimal changed ++ (codes " changed, " ++ (decimal destroyed ++ codes " destroyed.\n")))))

-- the summary of a report: whether all is good, and how many actions of each kind are good
abbrev pub report_summary : Report → List ℕ
report_summary report = counts (summary_opening (all_good report)) report.good.0 report.good.1 report.good.2

-- ---- all that is printed

-- the state changed, and there is no text of it to write
abbrev pub cant_write : Applied → Bool
cant_write a = a.changed && is_err a.state

-- the warning of a torn report
abbrev pub torn_warning : Bool → List ℕ
torn_warning torn = if torn then codes "warning: the journal is withheld\n" else []

abbrev pub unwritten_error : Bool → List ℕ
unwritten_error unwritten = if unwritten then unwritten_line else []

-- on standard output: the plan and the summary
abbrev pub applied_output : Applied → List ℕ
applied_output a = string_bytes a.plan ++ report_summary (report_of a.walked)

-- the warning of a torn report, and the line that the state isn't written
abbrev pub warnings : Applied → List ℕ
warnings a = torn_warning (is_torn a.walked) ++ unwritten_error (cant_write a)

-- on standard error: the diagnostics, and then the warnings
abbrev pub applied_errors : Applied → List ℕ
applied_errors a = diagnostic_lines (report_of a.walked).diagnostics.items ++ warnings a

abbrev pub output_of : Result Applied Refused → List ℕ
output_of (Ok a) = applied_output a
output_of (Err refused) = []

-- on standard output after the plan
abbrev pub summary_of : Result Applied Refused → List ℕ
summary_of (Ok a) = report_summary (report_of a.walked)
summary_of (Err refused) = []

abbrev pub errors_of : Result Applied Refused → List ℕ
errors_of (Ok a) = applied_errors a
errors_of (Err refused) = refused_errors refused

-- 3 if the state isn't written, else 2 if some action or output isn't good or the report is torn, else 0
abbrev pub applied_status : Applied → ℕ
applied_status a =
    if cant_write a then 3 else (if all_good (report_of a.walked) && not (is_torn a.walked) then 0 else 2)

-- 1 if the apply is refused
abbrev pub status_of : Result Applied Refused → ℕ
status_of (Ok a) = applied_status a
status_of (Err refused) = 1

-- ---- what is written

-- The text that a program writes in place of the prior state's: that of the state after the apply, if it differs from
-- the prior one and there was memory for its text. Nothing if the apply was refused.
abbrev pub to_write : Result Applied Refused → Option (List ℕ)
to_write (Ok a) = if a.changed then option_map string_bytes (result_ok a.state) else None
to_write (Err refused) = None
