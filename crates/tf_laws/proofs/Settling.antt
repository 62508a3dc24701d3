-- What applies of texts change after one whose status is 0.
use Rattle.std.proofs.Common.{◌≡◌, ◌∙◌, ℕ, false, List, Ok, String, Global, sym, subst, string_bytes}
use Rattle.tf_laws.proofs.TextsAgain.{saved_reads}
use Rattle.tf_laws.proofs.PlannedOverTexts.{plan_acyclic, reported}
use Rattle.tf_laws.proofs.Reading.{one_config, one_values, prior_valid}
use Rattle.tf_laws.proofs.Schemas.{schemas_in}
use Rattle.tf_laws.specs.ReapplyTexts.{HaveSchemas, over}
use Rattle.tf_cli.specs.Applies.{IsApplied, state_in}
use Rattle.tf_cli_text.specs.Shown.{applied_status}
use Rattle.tf_cli_text.specs.declared.applied.Applied.{Applied}
use Rattle.tf_config_data.specs.Config.{ConfigView}
use Rattle.tf_laws.proofs.Whole.{carried_out}
use Rattle.tf_laws.specs.Reapply.{IsCarriedOut, IsSound}
use Rattle.tf_laws.specs.Read.{ReadIsSound}
use Rattle.tf_laws.specs.Twice.{HasOrderedOutputs, HasOwnNames, IsAppliedAgain, IsAppliedWell, SecondAppliesChangeFlags, SecondSerialsTell}
use Rattle.tf_laws.specs.Twice as twice
use Rattle.tf_cli_inputs.specs.Texts.{AreTheValues, ReadAs, Texts}
use Rattle.tf_walk_outputs.specs.Outputs.{outputs_after}
use Rattle.tf_plan_planner.specs.Plan.{IsPlan}
use Rattle.tf_provider_protocol.specs.Meaning.{Meaning}
use Rattle.tf_walk_report.specs.Report.{report_of}
use Rattle.tf_state.specs.Laws.{TextReadsAsState}
use Rattle.tf_state.specs.Table.{Reads}
use Rattle.tf_state_data.specs.State.{StateView}
use Rattle.tf_value_data.specs.Tree.{Entries}
use Rattle.tf_laws.proofs.Complete.{success_complete}
use Rattle.tf_laws.proofs.Planning.{records_in_order}
use Rattle.tf_laws.specs.ReadingLaws.{Laws}
use Rattle.tf_laws.specs.Success.{IsComplete, SecondAppliesSettle, ThirdAppliesChangeNothing}

-- the laws that only applies rest on
pub record Settling : Type 0 where
  pub sound : ReadIsSound
  pub back : TextReadsAsState
  pub second : SecondAppliesChangeFlags
  pub serials : SecondSerialsTell
  pub third : twice.ThirdAppliesChangeNothing

-- ---- one apply

-- an apply of the same configuration and variables over a state that was written is one over that state
again_of : Laws → (ms : List Meaning) (texts : Texts) (bytes other : List ℕ) (config : ConfigView) (values : Entries) (before : StateView) (again : Applied)
    → (read : (c : ConfigView) (v : Entries) → (lineage : List ℕ) (p : StateView) → ReadAs (over texts bytes) lineage c v p → (c ≡ config) × (v ≡ values)) → Reads bytes before
    → (is : IsApplied ms (over texts bytes) other again) → IsAppliedAgain ms config values before is.plan (state_in again)
again_of laws ms texts bytes other config values before again read reads is =
    let planned = is.planned in
    let told = reported ms is.plan again.walked is.carried_out.walked in
    let same = read planned.config planned.values other planned.prior planned.stand in
    let from : planned.prior ≡ before = laws.state bytes planned.prior before planned.stand.before.0 reads in
    record {
      planned =
          subst (λ (c : ConfigView). IsPlan ms c values before is.plan) same.0
          (subst (λ (v : Entries). IsPlan ms planned.config v before is.plan) same.1 (subst (λ (s : StateView). IsPlan ms planned.config planned.values s is.plan) from planned.planned));
      done = told.done;
      outputs = told.outputs;
      are_outputs = told.is_report.told.outputs_done;
      state = told.is_report.told.state;
      in_order = record { resources = is.carried_out.valid.resources.1; records = records_in_order (state_in again).resources is.carried_out.valid.resources.0 };
    }

-- ---- after an apply whose status is 0

module _ (laws : Laws) (more : Settling) (ms : List Meaning) (texts : Texts) (lineage : List ℕ) (first : Applied) (saved : String Global)
    (schemas : HaveSchemas ms) (is : IsApplied ms texts lineage first) (status : applied_status first ≡ 0) (written : first.state ≡ Ok saved) where
  sound : IsSound ms is.planned.config is.planned.values is.planned.prior
  sound =
      let stand = is.planned.stand in
      more.sound ms stand.read.tree is.planned.config stand.valued.file is.planned.values is.planned.prior stand.read.stands stand.valued.valued (schemas_in ms schemas)
      (prior_valid laws.read laws.empty texts.state lineage is.planned.prior stand.before)

  fit : HasOwnNames is.planned.config × HasOrderedOutputs is.planned.config
  fit = laws.own is.planned.stand.read.tree is.planned.config is.planned.stand.read.stands

  well : IsAppliedWell ms is.planned.config is.planned.values is.planned.prior is.plan (state_in first)
  well =
      let complete : IsComplete ms is.plan first = success_complete ms texts lineage first is status in
      let told = reported ms is.plan first.walked is.carried_out.walked in
      let planned = is.planned.planned in
      let entries : outputs_after is.plan.prior.outputs is.plan.config.outputs told.outputs ≡ outputs_after is.planned.prior.outputs is.planned.config.outputs told.outputs =
      λ i. outputs_after (planned.prior i).outputs (planned.config i).outputs told.outputs in
      record {
        done = told.done;
        outputs = told.outputs;
        carried =
            subst (λ (es : Entries). IsCarriedOut ms is.planned.config is.planned.values is.planned.prior is.plan told.done es (state_in first)) entries
            (carried_out ms is.planned.config is.planned.values is.planned.prior is.plan told.requests told.done told.outputs (report_of first.walked) planned
            (plan_acyclic ms texts lineage is.plan is.planned) told.are_requests told.is_report complete.good);
        are_outputs = told.is_report.told.outputs_done;
        each_valued = complete.valued told;
      }

  own : (bytes : List ℕ) (c : ConfigView) (v : Entries) (other : List ℕ) (p : StateView) → ReadAs (over texts bytes) other c v p → (c ≡ is.planned.config) × (v ≡ is.planned.values)
  own bytes c v other p stand =
      let same : c ≡ is.planned.config = one_config laws.one texts.config c is.planned.config stand.read is.planned.stand.read in
      (same, one_values laws.values texts.vars is.planned.config v is.planned.values (subst (λ (d : ConfigView). AreTheValues texts.vars d v) same stand.valued) is.planned.stand.valued)

  module _ (other : List ℕ) (second : Applied) (also : IsApplied ms (over texts (string_bytes saved)) other second) where
    again : IsAppliedAgain ms is.planned.config is.planned.values (state_in first) also.plan (state_in second)
    again =
        again_of laws ms texts (string_bytes saved) other is.planned.config is.planned.values (state_in first) second (own (string_bytes saved))
        (saved_reads more.back laws.state ms texts lineage first is saved written) also

    flags : twice.without_flags (state_in second) ≡ twice.without_flags (state_in first)
    flags = more.second ms is.planned.config is.planned.values is.planned.prior is.plan (state_in first) also.plan (state_in second) sound fit.0 fit.1 well again

    serial : twice.HasToldSerial (state_in first) (state_in second)
    serial = more.serials ms is.planned.config is.planned.values is.planned.prior is.plan (state_in first) also.plan (state_in second) sound fit.0 fit.1 well again

    module _ (saved_again : String Global) (written_again : second.state ≡ Ok saved_again) (another : List ℕ) (third : Applied) (last : IsApplied ms (over texts (string_bytes saved_again)) another third) where
      reads_again : Reads (string_bytes saved_again) (state_in second)
      reads_again = saved_reads more.back laws.state ms (over texts (string_bytes saved)) other second also saved_again written_again

      stays : state_in third ≡ state_in second
      stays =
          more.third ms is.planned.config is.planned.values is.planned.prior is.plan (state_in first) also.plan (state_in second) last.plan (state_in third) sound fit.0 fit.1 well again
          (again_of laws ms texts (string_bytes saved_again) another is.planned.config is.planned.values (state_in second) third (own (string_bytes saved_again)) reads_again last)

      unchanged : third.changed ≡ false
      unchanged =
          last.carried_out.changed.1 (stays ∙ sym (laws.state (string_bytes saved_again) last.planned.prior (state_in second) last.planned.stand.before.0 reads_again) ∙ sym last.planned.planned.prior)

pub seconds_settle : Laws → Settling → SecondAppliesSettle
seconds_settle laws more ms texts lineage other first second saved schemas is status written also = record {
  kept = flags laws more ms texts lineage first saved schemas is status written other second also;
  serial = serial laws more ms texts lineage first saved schemas is status written other second also;
}

pub thirds_stay : Laws → Settling → ThirdAppliesChangeNothing
thirds_stay laws more ms texts lineage other another first second third saved saved_again schemas is status written also written_again last = (
  stays laws more ms texts lineage first saved schemas is status written other second also saved_again written_again another third last,
  unchanged laws more ms texts lineage first saved schemas is status written other second also saved_again written_again another third last,
)
