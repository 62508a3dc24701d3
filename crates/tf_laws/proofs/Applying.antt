-- Two applies of the same texts that excuse the same answer the same.
use Rattle.std.proofs.Common.{◌≡◌, ◌∙◌, ℕ, Bool, true, false, List, Ok, String, Global, refl, sym, ap, subst, string_bytes}
use Rattle.tf_laws.proofs.TextsAgain.{saved_text}
use Rattle.tf_laws.proofs.PlannedOverTexts.{plan_acyclic, reported}
use Rattle.tf_laws.proofs.Reading.{prior_valid, read_in_order}
use Rattle.tf_cli.specs.Applies.{IsApplied, state_in}
use Rattle.tf_cli_text.specs.declared.applied.Applied.{Applied}
use Rattle.tf_config_data.specs.Config.{ConfigView}
use Rattle.tf_laws.specs.Plans.{AreOne, AreOrderly, PlanTextsAreOne, PlansAreOne}
use Rattle.tf_laws.specs.Founded.{IsFounded}
use Rattle.tf_laws.specs.One.{ReportsAreOne, TellTheSame}
use Rattle.tf_laws.specs.Planned.{PlansAreFounded}
use Rattle.tf_provider_protocol.specs.Meaning.{Meaning}
use Rattle.tf_cli_inputs.specs.Texts.{Texts}
use Rattle.tf_walk_report.specs.Report.{report_of}
use Rattle.tf_state.specs.Text.{state_text}
use Rattle.tf_state_data.specs.State.{StateView}
use Rattle.tf_laws.proofs.Alike.{reported_too}
use Rattle.tf_laws.proofs.Planning.{one_plan, orderly, shown_one}
use Rattle.tf_laws.specs.Applies.{AppliesAreOne}
use Rattle.tf_laws.specs.ReadingLaws.{Laws}

-- the laws on plans and reports
pub record Telling : Type 0 where
  pub plans : PlansAreOne
  pub texts : PlanTextsAreOne
  pub founded : PlansAreFounded
  pub reports : ReportsAreOne

same_flag : (b c : Bool) → (b ≡ false → c ≡ false) → (c ≡ false → b ≡ false) → b ≡ c
same_flag false false f g = refl
same_flag true true f g = refl
same_flag false true f g = absurd (let no : true ≡ false = f refl in cc)
same_flag true false f g = absurd (let no : true ≡ false = g refl in cc)

module _ (laws : Laws) (more : Telling) (ms : List Meaning) (texts : Texts) (lineage : List ℕ) (first second : Applied) (is : IsApplied ms texts lineage first) (also : IsApplied ms texts lineage second)
    (excused : (report_of first.walked).excused.items ≡ (report_of second.walked).excused.items) where
  one : AreOne is.plan also.plan
  one = one_plan laws more.plans ms texts lineage is.plan also.plan is.planned also.planned

  plan_orderly : AreOrderly is.plan.config is.plan.prior
  plan_orderly =
      let is_orderly = orderly laws texts lineage is.planned.config is.planned.values is.planned.prior is.planned.stand in
      subst (λ (c : ConfigView). AreOrderly c is.plan.prior) (sym is.planned.planned.config)
      (subst (λ (s : StateView). AreOrderly is.planned.config s) (sym is.planned.planned.prior) is_orderly)

  founded : IsFounded is.plan
  founded =
      let stand = is.planned.stand in
      more.founded ms is.planned.config is.planned.values is.planned.prior is.plan is.planned.planned (plan_acyclic ms texts lineage is.plan is.planned)
      (read_in_order laws.order stand.read.tree is.planned.config stand.read.stands) (prior_valid laws.read laws.empty texts.state lineage is.planned.prior stand.before)

  told : TellTheSame (report_of first.walked) (report_of second.walked)
  told =
      (more.reports ms is.plan (report_of first.walked) (report_of second.walked) founded (reported ms is.plan first.walked is.carried_out.walked)
      (reported_too ms is.plan also.plan (report_of second.walked) one plan_orderly founded.declared (reported ms also.plan second.walked also.carried_out.walked)) excused).2

  states : state_in first ≡ state_in second
  states = told.state

  changed : first.changed ≡ second.changed
  changed =
      same_flag first.changed second.changed (λ e. also.carried_out.changed.1 (sym states ∙ is.carried_out.changed.0 e ∙ one.prior))
      (λ e. is.carried_out.changed.1 (states ∙ also.carried_out.changed.0 e ∙ sym one.prior))

  written : (saved other : String Global) → first.state ≡ Ok saved → second.state ≡ Ok other → string_bytes saved ≡ string_bytes other
  written saved other h k = saved_text first saved h is.carried_out.text ∙ ap state_text states ∙ sym (saved_text second other k also.carried_out.text)

pub applies_one : Laws → Telling → AppliesAreOne
applies_one laws more ms texts lineage first second is also excused = record {
  shown = is.carried_out.shown ∙ shown_one laws ms texts lineage lineage is.plan also.plan is.planned also.planned more.texts ∙ sym also.carried_out.shown;
  told = told laws more ms texts lineage first second is also excused;
  text = written laws more ms texts lineage first second is also excused;
  changed = changed laws more ms texts lineage first second is also excused;
}
