-- What the programs do with the files that they were given.
use Rattle.std.specs.Prelude.{◌≡◌, ◌⊎◌, ◌&&◌, if◌then◌else◌, ◌==◌, ◌++◌, not, true, false, IfOk, MatchBool, MatchOption, ℕ, List, length, Option, Some, None, Result, Ok, Err, OnOk, option_map, string_bytes}
use Rattle.std.specs.Io.KnownBytes.{Appends}
use Rattle.std.specs.Process.{exit_status}
use Rattle.std.specs.declared.alloc.Global.{Global}
use Rattle.std.specs.declared.process.ExitCode.{ExitCode}
use Rattle.std.specs.declared.string.String.{String}
use Rattle.tf_cli_inputs.specs.Texts.{Texts, the_texts}
use Rattle.tf_plan_planner.specs.Refused.{Tells}
use Rattle.tf_plan_planner.specs.declared.refused.Refused.{Refused}
use Rattle.tf_provider_protocol.specs.Meaning.{Meaning}
use Rattle.tf_walk.specs.Workers.{are_workers}
use Rattle.tf_cli.specs.Applies.{IsApplied, IsPlanOf, text_in}
use Rattle.tf_cli_options.specs.declared.words.Options.{Options}
use Rattle.tf_cli_text.specs.Shown.{to_write}
use Rattle.tf_provider_log.specs.Header.{HeaderView}
use Rattle.tf_plan_diff.specs.Diff.{diff_text}
use Rattle.tf_plan_diff.specs.declared.headings.Colours.{Colours}
use Rattle.tf_plan_json.specs.Document.{IsJsonText}
use Rattle.tf_plan_text.specs.Dot.{IsDrawn}
use Rattle.tf_plan_data.specs.Plan.{PlanView}
use Rattle.tf_cli_files.specs.Kept.{EndsKept, text_in_place}
use Rattle.tf_cli_files.specs.declared.log_file.Settled.{Settled}
use Rattle.tf_cli_files.specs.declared.log_file.Settled.TheVariants.{NoCalls, Replaced, UpToDate}
use Rattle.tf_cli.specs.Refusals.{AreApplyRefusals, AreRefusals}
use Rattle.tf_cli_lines.specs.Saved.{AppendsStart}
use Rattle.tf_cli_text.specs.Shown.{applied_errors, refused_errors, report_summary, status_of}
use Rattle.tf_walk_report.specs.Report.{report_of}
use Rattle.tf_cli_text.specs.declared.applied.Applied.{Applied}
use Rattle.tf_cli_files.specs.declared.given.ProgramInput.{ProgramInput}

-- the texts that a program was given
abbrev pub texts_of : ProgramInput → Texts
texts_of given = the_texts given.config.items (option_map (λ bytes. bytes.items) given.vars) (option_map (λ bytes. bytes.items) given.state)

-- the first line of the log of an apply of what was given
abbrev pub header_given : ProgramInput → HeaderView
header_given given = record {
  config = given.config.items;
  vars = option_map (λ bytes. bytes.items) given.vars;
  state = option_map (λ bytes. bytes.items) given.state;
  lineage = string_bytes given.options.lineage;
}

-- the text that shows a plan: with the old values, if the options ask for them
abbrev pub shown_text : Options → Colours → PlanView → List ℕ
shown_text options colours plan = if options.diff then diff_text colours plan else text_in plan

-- the text that shows the plan of what was given, in some colours
pub record IsShownPlan (ms : List Meaning) (given : ProgramInput) (text : List ℕ) : Type 0 where
  pub colours : Colours
  pub plan : PlanView
  pub planned : IsPlanOf ms (texts_of given) (string_bytes given.options.lineage) plan
  pub shows : text ≡ shown_text given.options colours plan

-- the text of a plan in the form that the options ask for
abbrev pub PrintsAs : Options → Colours → PlanView → List ℕ → Type 0
PrintsAs options colours plan text =
    MatchOption options.graph (MatchBool options.json (IsJsonText plan text) (text ≡ shown_text options colours plan)) (λ form. IsDrawn plan text)

-- 2 if the plan has actions and the options ask for a status that says so, else 0
abbrev pub plan_status : Options → PlanView → ℕ
plan_status options plan = if options.detailed_exitcode && not (length plan.actions == 0) then 2 else 0

-- what `plan` prints, and its status
pub record IsPlanPrint (ms : List Meaning) (given : ProgramInput) (colours : Colours) (text : List ℕ) (status : ℕ) : Type 0 where
  pub plan : PlanView
  pub planned : IsPlanOf ms (texts_of given) (string_bytes given.options.lineage) plan
  pub prints : PrintsAs given.options colours plan text
  pub ends : status ≡ plan_status given.options plan

-- an answer as plain data
abbrev pub plain_answer : Result (String Global × ℕ) Refused → Result (List ℕ × ℕ) Refused
plain_answer (Ok (text, status)) = Ok (string_bytes text, status)
plain_answer (Err refused) = Err refused

-- the answer of a plan of what was given: its text and status, or what is refused
abbrev pub IsPlanAnswer : List Meaning → ProgramInput → Colours → Result (List ℕ × ℕ) Refused → Type 0
IsPlanAnswer ms given colours (Ok printed) = IsPlanPrint ms given colours printed.0 printed.1
IsPlanAnswer ms given colours (Err refused) = Tells (AreRefusals ms (texts_of given)) refused

-- The text, or a beginning of it if a write failed, is on standard output, with its status; or the refusals, or a beginning of
-- them, are on standard error, with status 1. Nothing else is written to either.
abbrev pub EndsPlan : Result (List ℕ × ℕ) Refused → (result : ℕ) (out out_after err err_after : Option (List ℕ)) → Type 0
EndsPlan (Ok printed) result out out_after err err_after =
    (result ≡ printed.1) × (err_after ≡ err) × AppendsStart out out_after printed.0
EndsPlan (Err refused) result out out_after err err_after =
    (result ≡ 1) × (out_after ≡ out) × AppendsStart err err_after (refused_errors refused)

-- the answer of an apply of what was given
abbrev pub IsAnswer : List Meaning → ProgramInput → Result Applied Refused → Type 0
IsAnswer ms given (Ok applied) =
    IsApplied ms (texts_of given) (string_bytes given.options.lineage) applied × (are_workers given.options.parallelism ≡ true)
IsAnswer ms given (Err refused) =
    Tells (AreApplyRefusals ms (texts_of given) (string_bytes given.options.lineage) given.options.parallelism) refused

-- How much of the plan's text is printed: nothing, all, or a beginning if a write failed.
abbrev pub IsPrinted : {F : Type 0} → Option (Result (Unit {0}) F) → List ℕ → (out out_after : Option (List ℕ)) → Type 0
IsPrinted None text out out_after = out_after ≡ out
IsPrinted (Some printed) text out out_after = OnOk printed (Appends out out_after text) × AppendsStart out out_after text

-- at most the text of the plan is on standard output
abbrev pub IsPlanAtMost : List Meaning → ProgramInput → (out out_after : Option (List ℕ)) → Type 0
IsPlanAtMost ms given out out_after =
    (out_after ≡ out) ⊎ ((text : List ℕ) × IsShownPlan ms given text × AppendsStart out out_after text)

-- What is printed of an answer, or a beginning of it, and nothing else: the plan and then the summary. An apply may be refused after
-- its plan was printed.
abbrev pub IsShown : List Meaning → ProgramInput → Result Applied Refused → (out out_after err err_after : Option (List ℕ)) → Type 0
IsShown ms given (Ok a) out out_after err err_after =
    ((text : List ℕ) × IsShownPlan ms given text × AppendsStart out out_after (text ++ report_summary (report_of a.walked)))
    × AppendsStart err err_after (applied_errors a)
IsShown ms given (Err refused) out out_after err err_after = IsPlanAtMost ms given out out_after × AppendsStart err err_after (refused_errors refused)

-- The answer is printed, and then the state is written, if there is one to write.
abbrev pub EndsWith : List Meaning → ProgramInput → Option (List ℕ) → Result Applied Refused → (result : ℕ) (out out_after err err_after : Option (List ℕ)) → Type 0
EndsWith ms given None answer result out out_after err err_after = (result ≡ status_of answer) × IsShown ms given answer out out_after err err_after
EndsWith ms given (Some text) answer result out out_after err err_after =
    (out_shown : Option (List ℕ)) × (err_shown : Option (List ℕ)) × IsShown ms given answer out out_shown err err_shown
    × EndsKept (status_of answer) result text out_shown out_after err_shown err_after

abbrev pub EndsApply : List Meaning → ProgramInput → Result Applied Refused → (result : ℕ) (out out_after err err_after : Option (List ℕ)) → Type 0
EndsApply ms given answer result out out_after err err_after = EndsWith ms given (to_write answer) answer result out out_after err err_after

-- Why the log of an apply isn't needed any more: the state file was replaced by the text to write, or the state hasn't changed. It is
-- still needed only if the state isn't written, which is status 3.
abbrev pub IsSettled : {E : Type 0} → Result Applied Refused → (status : ℕ) → Result Settled E → Type 0
IsSettled answer status (Err cause) = status ≡ 3
IsSettled answer status (Ok (Replaced in_place)) = to_write answer ≡ Some (text_in_place in_place)
IsSettled answer status (Ok UpToDate) = IfOk answer (λ a. a.changed ≡ false)
IsSettled answer status (Ok NoCalls) = ⊥

-- An apply of which the plan is printed ends with this status, and may print more on standard error.
abbrev pub EndsAs : List Meaning → ProgramInput → Result Applied Refused → (result : ExitCode) (out out_after err : Option (List ℕ)) → Type 0
EndsAs ms given answer result out out_after err =
    (status : ℕ) × (err_shown : Option (List ℕ)) × EndsApply ms given answer status out out_after err err_shown × (exit_status result ≡ status)

-- An apply with a log ends before any call, with status 1 and at most the plan on standard output; or it ends as an apply without
-- one does, and may print more on standard error.
abbrev pub EndsLogged : List Meaning → ProgramInput → (result : ExitCode) (out out_after err : Option (List ℕ)) → Type 0
EndsLogged ms given result out out_after err =
    ((exit_status result ≡ 1) × IsPlanAtMost ms given out out_after)
    ⊎ ((answer : Result Applied Refused) × IsAnswer ms given answer × EndsAs ms given answer result out out_after err)
