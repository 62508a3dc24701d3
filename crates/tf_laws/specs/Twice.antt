-- What applies change after one that went well: the second one only flags, and the third one nothing.
use Rattle.std.specs.Prelude.{◌≡◌, ◌+◌, ◌⊎◌, ℕ, false, List, map, codes}
use Rattle.std.specs.Cmp.Lexicographic.{slice_cmp}
use Rattle.std.specs.List.{AllByRecursion}
use Rattle.std.specs.List.Sorted.{IsStrictlySortedBy}
use Rattle.std.specs.Ordering.{nat_cmp}
use Rattle.tf_config_json.specs.Config.{names_in}
use Rattle.tf_config_data.specs.Config.{ConfigView}
use Rattle.tf_state_next.specs.Laws.{IsInOrder}
use Rattle.tf_walk_action.specs.Outcome.{AreRequests, ActionResultView, Requests}
use Rattle.tf_walk_action.specs.declared.excuse.Outcome.TheVariants.{Judged}
use Rattle.tf_walk_outputs.specs.Outputs.{OutputResultView, outputs_after}
use Rattle.tf_plan_planner.specs.Plan.{IsPlan}
use Rattle.tf_plan_data.specs.Plan.{PlanView}
use Rattle.tf_provider_protocol.specs.Meaning.{Meaning}
use Rattle.tf_provider_protocol.specs.declared.verdict.Verdict.TheVariants.{Good}
use Rattle.tf_walk_report.specs.Report.{AreOutputsOf, IsReport, IsStateOf, IsTold}
use Rattle.tf_walk_report.specs.declared.report.Report.{Report}
use Rattle.tf_state_data.specs.Record.{RecordView}
use Rattle.tf_state_data.specs.Resource.{ResourceView}
use Rattle.tf_state_data.specs.State.{StateView, state_of}
use Rattle.tf_value_data.specs.Tree.{Entries}
use Rattle.tf_laws.specs.Reapply.{IsCarriedOut, IsSound, IsValued}

-- ---- states but for their flags

-- an object's record without the flag `create_before_destroy`
abbrev pub record_without_flag : RecordView → RecordView
record_without_flag r = record r { create_before_destroy = false }

-- a resource without the flags of its records
abbrev pub resource_without_flags : ResourceView → ResourceView
resource_without_flags r = record r { records = map record_without_flag r.records }

-- A state without the flags of its records and without its serial, which only shows that something changed.
abbrev pub without_flags : StateView → StateView
without_flags s = record s { serial = 0; resources = map resource_without_flags s.resources }

-- ---- premises

-- No block has the type `local`, which names locals, so each name means one thing. Each configuration that was read meets this.
abbrev pub HasOwnNames : ConfigView → Type 0
HasOwnNames config = AllByRecursion (λ b. ¬ (b.addr.type_name ≡ codes "local")) config.blocks

-- Outputs are in byte order of their names, and no two have one name. Each configuration that was read meets this.
abbrev pub HasOrderedOutputs : ConfigView → Type 0
HasOrderedOutputs config = IsStrictlySortedBy (slice_cmp nat_cmp) (names_in config.outputs)

-- An apply of the same configuration and variables over the state that the previous one left: a plan from that state, and the
-- state that results, whatever the results of its outputs.
pub record IsAppliedAgain (ms : List Meaning) (config : ConfigView) (variables : Entries) (before : StateView) (again : PlanView) (later : StateView) : Type 0 where
  pub planned : IsPlan ms config variables before again
  pub done : List ActionResultView
  pub outputs : List OutputResultView
  pub are_outputs : AreOutputsOf again done outputs
  pub state : IsStateOf ms again done (outputs_after again.prior.outputs again.config.outputs outputs) later
  pub in_order : IsInOrder later

-- ---- the second apply

-- After an apply that went well, the second keeps each object and its record, with the stored dependencies, except for the flag
-- `create_before_destroy`. Lateness follows stored dependencies, and the first apply started from other ones. No object is
-- added or removed, and lineage and version stay.
abbrev pub SecondAppliesKeepObjects : Type 0
SecondAppliesKeepObjects =
    (ms : List Meaning) (config : ConfigView) (variables : Entries) (prior : StateView) (plan : PlanView) (done : List ActionResultView) (outputs : Entries) (after : StateView) (again : PlanView) (later : StateView)
    → IsSound ms config variables prior → HasOwnNames config → IsCarriedOut ms config variables prior plan done outputs after
    → IsAppliedAgain ms config variables after again later
    → (map resource_without_flags later.resources ≡ map resource_without_flags after.resources) × (later.lineage ≡ after.lineage) × (later.terraform_version ≡ after.terraform_version)

-- An apply that went well and gave each output a value.
pub record IsAppliedWell (ms : List Meaning) (config : ConfigView) (variables : Entries) (prior : StateView) (plan : PlanView) (after : StateView) : Type 0 where
  pub done : List ActionResultView
  pub outputs : List OutputResultView
  pub carried : IsCarriedOut ms config variables prior plan done (outputs_after prior.outputs config.outputs outputs) after
  pub are_outputs : AreOutputsOf plan done outputs
  pub each_valued : AllByRecursion IsValued outputs

-- Over the state that such an apply left, the second changes only flags and the serial. Outputs stay too, even one that runs
-- out of memory then.
abbrev pub SecondAppliesChangeFlags : Type 0
SecondAppliesChangeFlags =
    (ms : List Meaning) (config : ConfigView) (variables : Entries) (prior : StateView) (plan : PlanView) (after : StateView) (again : PlanView) (later : StateView)
    → IsSound ms config variables prior → HasOwnNames config → HasOrderedOutputs config → IsAppliedWell ms config variables prior plan after
    → IsAppliedAgain ms config variables after again later → without_flags later ≡ without_flags after

-- A serial shows whether anything changed: the state is the same, or resources differ and the serial is one more.
abbrev pub HasToldSerial : StateView → StateView → Type 0
HasToldSerial after later = (later ≡ after) ⊎ ((later.serial ≡ after.serial + 1) × (¬ (later.resources ≡ after.resources)))

-- The second apply's serial shows whether a flag changed.
abbrev pub SecondSerialsTell : Type 0
SecondSerialsTell =
    (ms : List Meaning) (config : ConfigView) (variables : Entries) (prior : StateView) (plan : PlanView) (after : StateView) (again : PlanView) (later : StateView)
    → IsSound ms config variables prior → HasOwnNames config → HasOrderedOutputs config → IsAppliedWell ms config variables prior plan after
    → IsAppliedAgain ms config variables after again later → HasToldSerial after later

-- ---- the third apply

-- The third changes no record, not even a flag, whatever the results of outputs: the stored dependencies are those that the
-- second started from, so the same resources are late.
abbrev pub ThirdAppliesKeepRecords : Type 0
ThirdAppliesKeepRecords =
    (ms : List Meaning) (config : ConfigView) (variables : Entries) (prior : StateView) (plan : PlanView) (done : List ActionResultView) (outputs : Entries) (after : StateView) (again : PlanView) (later : StateView) (third : PlanView) (last : StateView)
    → IsSound ms config variables prior → HasOwnNames config → IsCarriedOut ms config variables prior plan done outputs after
    → IsAppliedAgain ms config variables after again later → IsAppliedAgain ms config variables later third last → last.resources ≡ later.resources

-- So if each output of the first had a value, the third leaves exactly the state that the second left, with its serial.
abbrev pub ThirdAppliesChangeNothing : Type 0
ThirdAppliesChangeNothing =
    (ms : List Meaning) (config : ConfigView) (variables : Entries) (prior : StateView) (plan : PlanView) (after : StateView) (again : PlanView) (later : StateView) (third : PlanView) (last : StateView)
    → IsSound ms config variables prior → HasOwnNames config → HasOrderedOutputs config → IsAppliedWell ms config variables prior plan after
    → IsAppliedAgain ms config variables after again later → IsAppliedAgain ms config variables later third last → last ≡ later

-- ---- reports

-- The same laws for reports, by any number of workers. If each outcome in the first is a good verdict and each output has a
-- value, the second report's state differs only in flags and the serial, which shows whether a flag changed. The third report's
-- state is the second's.
abbrev pub ReportsSettle : Type 0
ReportsSettle =
    (ms : List Meaning) (config : ConfigView) (variables : Entries) (prior : StateView) (plan again third : PlanView) (requests : Requests)
    (done done_again done_third : List ActionResultView) (outputs outputs_again outputs_third : List OutputResultView) (report second last : Report)
    → IsSound ms config variables prior → HasOwnNames config → HasOrderedOutputs config
    → IsPlan ms config variables prior plan → ((n : ℕ) → plan.needs n n ≡ false) → AreRequests plan requests
    → IsReport ms requests plan done outputs report → AllByRecursion (λ o. o ≡ Judged Good) report.outcomes.items → AllByRecursion IsValued outputs
    → IsPlan ms config variables (state_of report.state) again → IsTold ms again done_again outputs_again second
    → IsPlan ms config variables (state_of second.state) third → IsTold ms third done_third outputs_third last
    → (without_flags (state_of second.state) ≡ without_flags (state_of report.state))
    × HasToldSerial (state_of report.state) (state_of second.state)
    × (state_of last.state ≡ state_of second.state)
