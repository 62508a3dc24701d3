-- Laws of an apply of texts whose status is 0, and of later applies.
use Rattle.std.specs.Prelude.{◌≡◌, ℕ, false, List, Ok, String, string_bytes}
use Rattle.std.specs.List.{AllByRecursion}
use Rattle.std.specs.declared.alloc.Global.{Global}
use Rattle.tf_laws.specs.ReapplyTexts.{HaveSchemas, WentWell, over}
use Rattle.tf_cli.specs.Applies.{IsApplied, state_in}
use Rattle.tf_cli_text.specs.Shown.{applied_status}
use Rattle.tf_cli_text.specs.declared.applied.Applied.{Applied}
use Rattle.tf_laws.specs.Reapply.{IsValued}
use Rattle.tf_laws.specs.Twice.{HasToldSerial, without_flags}
use Rattle.tf_cli_inputs.specs.Texts.{Texts}
use Rattle.tf_plan_data.specs.Plan.{PlanView}
use Rattle.tf_provider_protocol.specs.Meaning.{Meaning}
use Rattle.tf_walk_report.specs.Report.{IsReported, report_of}

-- An apply did everything that was planned: each action is good, and each output has a value.
pub record IsComplete (ms : List Meaning) (plan : PlanView) (a : Applied) : Type 0 where
  pub good : WentWell a
  pub valued : (told : IsReported ms plan (report_of a.walked)) → AllByRecursion IsValued told.outputs

-- If the status of an apply is 0, it is complete.
abbrev pub SuccessIsComplete : Type 0
SuccessIsComplete = (ms : List Meaning) (texts : Texts) (lineage : List ℕ) (a : Applied) → (is : IsApplied ms texts lineage a) → applied_status a ≡ 0 → IsComplete ms is.plan a

-- What an apply changes over the state that the previous one left: only flags `create_before_destroy` and the serial, which
-- shows whether a flag changed.
pub record IsSettled (first second : Applied) : Type 0 where
  pub kept : without_flags (state_in second) ≡ without_flags (state_in first)
  pub serial : HasToldSerial (state_in first) (state_in second)

-- After an apply with the status 0, a second one of the same configuration and variables, over the text of the state that the
-- first left, changes only these.
abbrev pub SecondAppliesSettle : Type 0
SecondAppliesSettle =
    (ms : List Meaning) (texts : Texts) (lineage other : List ℕ) (first second : Applied) (saved : String Global)
    → HaveSchemas ms → IsApplied ms texts lineage first → applied_status first ≡ 0 → first.state ≡ Ok saved
    → IsApplied ms (over texts (string_bytes saved)) other second → IsSettled first second

-- A third one, over the text of the state that the second left, leaves exactly that state.
abbrev pub ThirdAppliesChangeNothing : Type 0
ThirdAppliesChangeNothing =
    (ms : List Meaning) (texts : Texts) (lineage other another : List ℕ) (first second third : Applied) (saved saved_again : String Global)
    → HaveSchemas ms → IsApplied ms texts lineage first → applied_status first ≡ 0 → first.state ≡ Ok saved
    → IsApplied ms (over texts (string_bytes saved)) other second → second.state ≡ Ok saved_again
    → IsApplied ms (over texts (string_bytes saved_again)) another third → (state_in third ≡ state_in second) × (third.changed ≡ false)
