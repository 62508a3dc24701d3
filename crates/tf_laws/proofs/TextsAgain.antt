-- What holds of texts whose apply went well.
use Rattle.std.proofs.Common.{◌≡◌, ◌∙◌, ℕ, Bool, true, false, not, ◌&&◌, if◌then◌else◌, List, [], ◌∷◌, Result, Ok, Err, String, Global, length, map, refl, sym, ap, subst, string_bytes, arith}
use Rattle.std.proofs.lemmas.Str.{IsUtf8-string_bytes}
use Rattle.std.specs.List.{AllByRecursion, list_all}
use Rattle.std.specs.Prelude.{IfOk, is_err}
use Rattle.std.specs.Str.{IsUtf8}
use Rattle.std.specs.declared.alloc.AllocError.{AllocError}
use Rattle.tf_cli.specs.Applies.{IsApplied, IsPlanOf, IsPlanText, state_in}
use Rattle.tf_cli_text.specs.Shown.{all_good, cant_write, is_empty, is_good_outcome, is_torn}
use Rattle.tf_cli_text.specs.declared.applied.Applied.{Applied}
use Rattle.tf_laws.specs.Quiet.{IsRenewed, QuietAppliesKeepObjects}
use Rattle.tf_cli_inputs.specs.Texts.{Texts}
use Rattle.tf_walk_action.specs.Outcome.{ActionResultView}
use Rattle.tf_walk_action.specs.declared.excuse.Outcome.{Outcome}
use Rattle.tf_walk_action.specs.declared.excuse.Outcome.TheVariants as outcome
use Rattle.tf_walk_outputs.specs.Outputs.{outputs_after}
use Rattle.tf_plan_data.specs.Plan.{PlanView}
use Rattle.tf_provider_protocol.specs.Meaning.{Meaning}
use Rattle.tf_provider_protocol.specs.declared.verdict.Verdict.{Verdict}
use Rattle.tf_provider_protocol.specs.declared.verdict.Verdict.TheVariants as verdict
use Rattle.tf_walk_report.specs.Outcomes.{outcome_of}
use Rattle.tf_walk_report.specs.Report.{report_of}
use Rattle.tf_walk_report.specs.declared.report.Report.{Report}
use Rattle.tf_state.specs.Laws.{TextIsOfOne, TextReadsAsState}
use Rattle.tf_state.specs.Table.{Reads}
use Rattle.tf_state.specs.Text.{state_text}
use Rattle.tf_state_data.specs.State.{StateView, record_in}
use Rattle.tf_value_data.proofs.Conjunction.{and-first, and-second}
use Rattle.tf_laws.proofs.PlannedOverTexts.{Laws, no_entries, none_again, reported, shown_none}
use Rattle.tf_laws.proofs.Reading.{one_resources}
use Rattle.tf_laws.specs.ReapplyTexts.{HaveSchemas, NothingIsDoneAgain, NothingIsPlannedAfterSuccess, NothingIsPlannedAgain, WentWell, no_changes, over, with_written}

-- ---- the state that was written reads back

pub saved_text : (a : Applied) (saved : String Global) → a.state ≡ Ok saved → IfOk a.state (λ text. string_bytes text ≡ state_text (state_in a)) → string_bytes saved ≡ state_text (state_in a)
saved_text a saved h text = subst (λ (r : Result (String Global) AllocError). IfOk r (λ text. string_bytes text ≡ state_text (state_in a))) h text

module _ (back : TextReadsAsState) (one : TextIsOfOne) (ms : List Meaning) (texts : Texts) (lineage : List ℕ) (a : Applied) (applied : IsApplied ms texts lineage a) (saved : String Global) (h : a.state ≡ Ok saved) where
  pub saved_reads : Reads (string_bytes saved) (state_in a)
  saved_reads =
      let same : string_bytes saved ≡ state_text (state_in a) = saved_text a saved h applied.carried_out.text in
      subst (λ (bytes : List ℕ). Reads bytes (state_in a)) (sym same) (back (state_in a) applied.carried_out.valid (subst IsUtf8 same (IsUtf8-string_bytes saved)))

  prior_again : (other : List ℕ) (plan : PlanView) (is : IsPlanOf ms (over texts (string_bytes saved)) other plan) → is.prior ≡ state_in a
  prior_again other plan is = one (string_bytes saved) is.prior (state_in a) is.stand.before.0 saved_reads

-- ---- over that state

module _ (laws : Laws) (back : TextReadsAsState) (one : TextIsOfOne) (ms : List Meaning) (texts : Texts) (lineage : List ℕ) (a : Applied) (schemas : HaveSchemas ms) (applied : IsApplied ms texts lineage a) (well : WentWell a)
    (saved : String Global) (h : a.state ≡ Ok saved) where
  none_over : (other : List ℕ) (plan : PlanView) → IsPlanOf ms (over texts (string_bytes saved)) other plan → plan.actions ≡ []
  none_over other plan is =
      none_again laws ms texts lineage a schemas applied well is.config is.values is.prior plan is.stand.read is.stand.valued
      (ap (λ (s : StateView). s.resources) (prior_again back one ms texts lineage a applied saved h other plan is)) is.planned

  planned_over_saved : (text : List ℕ) → IsPlanText ms (over texts (string_bytes saved)) text → text ≡ no_changes
  planned_over_saved text is = is.shown ∙ shown_none is.plan.late is.plan.actions (none_over is.lineage is.plan is.planned)

pub nothing_is_planned_again : Laws → TextReadsAsState → TextIsOfOne → NothingIsPlannedAgain
nothing_is_planned_again laws back one ms texts lineage a saved text schemas applied well h is = planned_over_saved laws back one ms texts lineage a schemas applied well saved h text is

-- ---- a second apply

none_of : (done : List ActionResultView) (n : ℕ) → length done ≡ n → n ≡ 0 → map outcome_of done ≡ []
none_of [] n all none = refl
none_of (d ∷ done) n all none = absurd (omega (arith, all, none))

pub nothing_is_done_again : Laws → TextReadsAsState → TextIsOfOne → QuietAppliesKeepObjects → NothingIsDoneAgain
nothing_is_done_again laws back one quiet ms texts lineage other a saved again schemas applied well h second =
    let plan = second.plan in
    let planned = second.planned in
    let none = none_over laws back one ms texts lineage a schemas applied well saved h other plan planned in
    let told = reported ms plan again.walked second.carried_out.walked in
    let before : plan.prior ≡ state_in a = planned.planned.prior ∙ prior_again back one ms texts lineage a applied saved h other plan planned in
    record {
      shown = second.carried_out.shown ∙ shown_none plan.late plan.actions none;
      no_calls = no_entries ms plan again.walked second.carried_out.walked none;
      no_outcomes = told.is_report.told.outcomes ∙ none_of told.done (length plan.actions) told.is_report.solved.all (ap length none);
      kept = λ addr id.
          subst (λ (s : StateView). IsRenewed (record_in addr id s) (record_in addr id (state_in again))) before
          (quiet ms plan told.done (outputs_after plan.prior.outputs plan.config.outputs told.outputs) (state_in again) none told.is_report.told.state addr id);
    }

-- ---- by the status

pub success : (b c : Bool) → ◌≡◌ {A = ℕ} (if b then 3 else (if c then 0 else 2)) 0 → (b ≡ false) × (c ≡ true)
success true c h = absurd (omega (arith, h))
success false true h = (refl, refl)
success false false h = absurd (omega (arith, h))

good_verdict : (v : Verdict) → is_good_outcome (outcome.Judged v) ≡ true → v ≡ verdict.Good
good_verdict verdict.Good h = refl
good_verdict verdict.Failed h = absurd (cc)
good_verdict verdict.Malformed h = absurd (cc)
good_verdict (verdict.Contradicted n) h = absurd (cc)
good_verdict verdict.Excused h = absurd (cc)

good_outcome : (o : Outcome) → is_good_outcome o ≡ true → o ≡ outcome.Judged verdict.Good
good_outcome (outcome.Judged v) h = ap (λ (w : Verdict). outcome.Judged w) (good_verdict v h)
good_outcome outcome.Skipped h = absurd (cc)
good_outcome outcome.Excused h = absurd (cc)
good_outcome outcome.ArgumentFault h = absurd (cc)

pub good_outcomes : (os : List Outcome) → list_all is_good_outcome os ≡ true → AllByRecursion (λ o. o ≡ outcome.Judged verdict.Good) os
good_outcomes [] h = tt
good_outcomes (o ∷ os) h = (
  good_outcome o (and-first (is_good_outcome o) (list_all is_good_outcome os) h),
  good_outcomes os (and-second (is_good_outcome o) (list_all is_good_outcome os) h),
)

reported_well : (report : Report) → all_good report ≡ true → AllByRecursion (λ o. o ≡ outcome.Judged verdict.Good) report.outcomes.items
reported_well report h = good_outcomes report.outcomes.items (and-first (list_all is_good_outcome report.outcomes.items) (is_empty report.diagnostics.items) h)

module _ (laws : Laws) (back : TextReadsAsState) (one : TextIsOfOne) (ms : List Meaning) (texts : Texts) (lineage : List ℕ) (a : Applied) (text : List ℕ) (schemas : HaveSchemas ms) (applied : IsApplied ms texts lineage a) (well : WentWell a) where
  -- where the state is the prior one, the same texts plan nothing
  unchanged : a.changed ≡ false → IsPlanText ms texts text → text ≡ no_changes
  unchanged same is =
      let first = applied.planned in
      let second = is.planned in
      let stays : first.prior ≡ state_in a = sym first.planned.prior ∙ sym (applied.carried_out.changed.0 same) in
      let resources = one_resources one texts.state lineage is.lineage first.prior second.prior first.stand.before second.stand.before ∙ ap (λ (s : StateView). s.resources) stays in
      is.shown ∙ shown_none is.plan.late is.plan.actions (none_again laws ms texts lineage a schemas applied well second.config second.values second.prior is.plan second.stand.read second.stand.valued resources second.planned)

  after : (changed : Bool) (state : Result (String Global) AllocError) → a.changed ≡ changed → a.state ≡ state → (changed && is_err state) ≡ false
      → IsPlanText ms (if changed then with_written texts state else texts) text → text ≡ no_changes
  after false state same is writes planned = unchanged same planned
  after true (Ok saved) same is writes planned = planned_over_saved laws back one ms texts lineage a schemas applied well saved is text planned
  after true (Err why) same is writes planned = absurd (cc)

pub nothing_is_planned_after_success : Laws → TextReadsAsState → TextIsOfOne → NothingIsPlannedAfterSuccess
nothing_is_planned_after_success laws back one ms texts lineage a text schemas applied status is =
    let good = success (cant_write a) (all_good (report_of a.walked) && not (is_torn a.walked)) status in
    let well = reported_well (report_of a.walked) (and-first (all_good (report_of a.walked)) (not (is_torn a.walked)) good.1) in
    after laws back one ms texts lineage a text schemas applied well a.changed a.state refl refl good.0 is
