-- What texts plan over the state that an apply left.
use Rattle.std.proofs.Common.{◌≡◌, ◌∙◌, ℕ, Bool, false, List, [], ◌∷◌, Option, Some, None, refl, sym, ap, subst}
use Rattle.std.specs.List.{AllByRecursion}
use Rattle.tf_plan_data.specs.Action.{ActionView}
use Rattle.tf_cli.specs.Applies.{IsApplied, IsPlanOf, state_in}
use Rattle.tf_cli_text.specs.declared.applied.Applied.{Applied}
use Rattle.tf_config_json.specs.Laws.{BlocksAreInOrder, StandsForOne}
use Rattle.tf_config_data.specs.Config.{ConfigView}
use Rattle.tf_config_data.specs.Names.{directly_before, names_of}
use Rattle.tf_laws.proofs.Read.{read_values_known}
use Rattle.tf_laws.specs.Reapply.{IsSound, ReportsConverge}
use Rattle.tf_graph.specs.Solutions.{Ranked}
use Rattle.tf_cli_inputs.specs.Texts.{AreTheValues, IsRead, ReadAs, Texts}
use Rattle.tf_provider.specs.declared.journal.Entry.{Entry}
use Rattle.tf_config_names.proofs.Rings.{places-acyclic}
use Rattle.tf_config_names.specs.Needs.{IsAcyclic}
use Rattle.tf_walk_action.specs.Journal.{IsOfAction}
use Rattle.tf_plan_planner.specs.Plan.{IsPlan, IsPlannedFrom}
use Rattle.tf_plan_data.specs.Plan.{PlanView, plan_names}
use Rattle.tf_plan_text.specs.Text.{plan_text}
use Rattle.tf_provider_protocol.specs.Meaning.{Meaning}
use Rattle.tf_provider_protocol.specs.declared.request.Op.{Op}
use Rattle.tf_walk_report.specs.Report.{IsReported, IsWalked, report_of}
use Rattle.tf_walk_report.specs.declared.report.Walked.{Walked}
use Rattle.tf_walk_report.specs.declared.report.Walked.TheVariants.{Whole, Torn}
use Rattle.tf_state.specs.Laws.{EmptyIsValid, ReadIsValid}
use Rattle.tf_state_data.specs.Resource.{ResourceView}
use Rattle.tf_state_data.specs.State.{StateView}
use Rattle.tf_value_data.specs.Tree.{Entries}
use Rattle.tf_config_json.specs.VariableLaws.{ValuesAreOne}
use Rattle.tf_laws.proofs.Reading.{one_config, one_values, prior_valid, read_in_order}
use Rattle.tf_laws.proofs.Schemas.{schemas_in}
use Rattle.tf_laws.specs.ReapplyTexts.{HaveSchemas, WentWell, no_changes}

-- the laws below that all rests on
pub record Laws : Type 0 where
  pub one : StandsForOne
  pub order : BlocksAreInOrder
  pub values : ValuesAreOne
  pub read : ReadIsValid
  pub empty : EmptyIsValid
  pub reports : ReportsConverge

-- ---- what a plan of texts starts from

pub sound : Laws → (ms : List Meaning) (texts : Texts) (lineage : List ℕ) (config : ConfigView) (values : Entries) (prior : StateView) → HaveSchemas ms → ReadAs texts lineage config values prior → IsSound ms config values prior
sound laws ms texts lineage config values prior schemas stand = record {
  blocks = read_in_order laws.order stand.read.tree config stand.read.stands;
  schemas = schemas_in ms schemas;
  variables_known = read_values_known stand.read.tree config stand.valued.file values stand.read.stands stand.valued.valued;
  valid = prior_valid laws.read laws.empty texts.state lineage prior stand.before;
}

module _ (ms : List Meaning) (texts : Texts) (lineage : List ℕ) (plan : PlanView) (is : IsPlanOf ms texts lineage plan) where
  acyclic : IsAcyclic is.planned.planned.ordered.tied.dependence
  acyclic = places-acyclic (names_of is.config) is.planned.planned.ordered.tied.dependence is.planned.planned.ordered.tied.is_dependence is.stand.names.acyclic

  pub plan_acyclic : (n : ℕ) → plan.needs n n ≡ false
  plan_acyclic n = ap (λ (f : ℕ → ℕ → Bool). f n n) is.planned.planned.ordered.tied.needs ∙ acyclic n

  pub plan_ranked : Ranked (directly_before (plan_names plan))
  plan_ranked = subst (λ (c : ConfigView). Ranked (directly_before (names_of c))) (sym is.planned.config) (is.planned.planned.ordered.tied.is_dependence.ranked acyclic)

-- ---- what a report tells

pub reported : (ms : List Meaning) (plan : PlanView) (w : Walked) → IsWalked ms plan w → IsReported ms plan (report_of w)
reported ms plan (Torn report) walked = absurd walked
reported ms plan (Whole report) walked = walked.reported

-- an entry of a journal is of an action
no_entry : (actions : List ActionView) (entries : List Entry) → actions ≡ [] → AllByRecursion (IsOfAction actions) entries → entries ≡ []
no_entry [] [] none of_actions = refl
no_entry [] (e ∷ entries) none of_actions = absurd (let no : ◌≡◌ {A = Option Op} None (Some e.op) = of_actions.0 in cc)
no_entry (a ∷ actions) entries none of_actions = absurd (cc)

-- so the journal of a plan without actions is empty
pub no_entries : (ms : List Meaning) (plan : PlanView) (w : Walked) → IsWalked ms plan w → plan.actions ≡ [] → (report_of w).journal.entries ≡ []
no_entries ms plan (Torn report) walked none = absurd walked
no_entries ms plan (Whole report) walked none = no_entry plan.actions report.journal.entries none walked.journal.ops

-- ---- nothing is planned

-- what is planned over a state is planned over any with its resources
pub planned_over : (ms : List Meaning) (config other : ConfigView) (values others : Entries) (prior state : StateView) (again : PlanView) → config ≡ other → values ≡ others → prior.resources ≡ state.resources
    → IsPlan ms config values prior again → IsPlan ms other others state (record again { prior = state })
planned_over ms config other values others prior state again same alike resources is = record {
  prior = refl;
  config = is.config ∙ same;
  variables = is.variables ∙ alike;
  planned =
      subst (λ (c : ConfigView). IsPlannedFrom ms state.resources others (names_of c) c.outputs again.needs again.shapes again.actions again.late again.order) same
      (subst (λ (v : Entries). IsPlannedFrom ms state.resources v (names_of config) config.outputs again.needs again.shapes again.actions again.late again.order) alike
      (subst (λ (rs : List ResourceView). IsPlannedFrom ms rs values (names_of config) config.outputs again.needs again.shapes again.actions again.late again.order) resources is.planned));
}

-- the configuration and the variables of an apply that went well plan no action over the resources that it left
pub none_again : Laws → (ms : List Meaning) (texts : Texts) (lineage : List ℕ) (a : Applied) → HaveSchemas ms → IsApplied ms texts lineage a → WentWell a
    → (config : ConfigView) (values : Entries) (prior : StateView) (again : PlanView) → IsRead texts.config config → AreTheValues texts.vars config values → prior.resources ≡ (state_in a).resources
    → IsPlan ms config values prior again → again.actions ≡ []
none_again laws ms texts lineage a schemas applied well config values prior again read valued resources is =
    let planned = applied.planned in
    let stand = planned.stand in
    let told = reported ms applied.plan a.walked applied.carried_out.walked in
    let same : config ≡ planned.config = one_config laws.one texts.config config planned.config read stand.read in
    let alike : values ≡ planned.values = one_values laws.values texts.vars planned.config values planned.values (subst (λ (c : ConfigView). AreTheValues texts.vars c values) same valued) stand.valued in
    laws.reports ms planned.config planned.values planned.prior applied.plan (record again { prior = state_in a }) told.requests told.done told.outputs (report_of a.walked)
    (sound laws ms texts lineage planned.config planned.values planned.prior schemas stand) planned.planned (plan_acyclic ms texts lineage applied.plan planned) told.are_requests told.is_report well
    (planned_over ms config planned.config values planned.values prior (state_in a) again same alike resources is)

-- the text of a plan without actions
pub shown_none : (late : ℕ → Bool) (actions : List ActionView) → actions ≡ [] → plan_text late actions ≡ no_changes
shown_none late [] h = refl
shown_none late (a ∷ actions) h = absurd (cc)
