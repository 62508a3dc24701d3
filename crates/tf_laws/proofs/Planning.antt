-- The same texts have the same plan, or the same refusals of it.
use Rattle.std.proofs.Common.{◌≡◌, ◌∙◌, ℕ, List, [], ◌∷◌, sym, ap, subst}
use Rattle.std.specs.List.{AllByRecursion}
use Rattle.tf_laws.proofs.PlannedOverTexts.{planned_over}
use Rattle.tf_laws.proofs.Reading.{prior_valid, read_in_order, prior_apart, same_config, same_values, stand_for_one}
use Rattle.tf_cli.specs.Applies.{IsPlanOf}
use Rattle.tf_config_data.specs.Config.{ConfigView}
use Rattle.tf_config_data.specs.Names.{names_of}
use Rattle.tf_cli_inputs.specs.Texts.{ReadAs, Texts}
use Rattle.tf_laws.specs.Plans.{AreOne, AreOrderly, PlanTextsAreOne, PlansAreNotRefused, PlansAreOne, RefusalsAreOne}
use Rattle.tf_plan_planner.specs.Plan.{IsPlan}
use Rattle.tf_plan_planner.specs.Refused.{AreRefused, AreRefusedOf}
use Rattle.tf_plan_data.specs.Plan.{PlanView}
use Rattle.tf_plan_text.specs.Text.{plan_text}
use Rattle.tf_provider_protocol.specs.Meaning.{Meaning}
use Rattle.tf_config_refusal.specs.Refusal.{RefusalView}
use Rattle.tf_state.specs.Valid.{IsPresent}
use Rattle.tf_state_data.specs.Ids.{AreById}
use Rattle.tf_state_data.specs.Resource.{ResourceView}
use Rattle.tf_state_data.specs.State.{StateView}
use Rattle.tf_value_data.specs.Tree.{Entries}
use Rattle.tf_laws.proofs.Ranking.{names_ranked}
use Rattle.tf_laws.specs.ReadingLaws.{Laws}
use Rattle.tf_laws.specs.TextPlans.{AppliesShowThePlan, PlannedTextsAreNotRefused, RefusalsOfTextsAreOne, TextsHaveOnePlan, TextsHaveOnePlanApart, TextsShowOnePlan, from_state}
use Rattle.tf_laws.specs.Readings.{without_lineage}

-- ---- what was read is orderly

pub records_in_order : (rs : List ResourceView) → AllByRecursion IsPresent rs → AllByRecursion (λ r. AreById r.records) rs
records_in_order [] h = tt
records_in_order (r ∷ rs) h = (h.0.0.records.1, records_in_order rs h.1)

pub orderly : Laws → (texts : Texts) (lineage : List ℕ) (config : ConfigView) (values : Entries) (prior : StateView) → ReadAs texts lineage config values prior → AreOrderly config prior
orderly laws texts lineage config values prior stand =
    let valid = prior_valid laws.read laws.empty texts.state lineage prior stand.before in
    record {
      ranked = names_ranked (names_of config) stand.names.acyclic;
      blocks = read_in_order laws.order stand.read.tree config stand.read.stands;
      own_names = (laws.own stand.read.tree config stand.read.stands).0;
      resources = valid.resources.1;
      records = records_in_order prior.resources valid.resources.0;
    }

-- ---- the same texts

-- what is refused of a configuration over a state is refused over any other with its resources
refused_over : (ms : List Meaning) (config again : ConfigView) (values others : Entries) (prior before : StateView) (refusal_views : List RefusalView) → again ≡ config → others ≡ values → before.resources ≡ prior.resources
    → AreRefused ms again others before refusal_views → AreRefused ms config values prior refusal_views
refused_over ms config again values others prior before refusal_views same alike resources is =
    subst (λ (c : ConfigView). AreRefusedOf ms prior.resources values (names_of c) c.outputs refusal_views) same
    (subst (λ (v : Entries). AreRefusedOf ms prior.resources v (names_of again) again.outputs refusal_views) alike
    (subst (λ (rs : List ResourceView). AreRefusedOf ms rs others (names_of again) again.outputs refusal_views) resources is))

module _ (laws : Laws) (ms : List Meaning) (texts : Texts) (lineage other : List ℕ) (config again : ConfigView) (values others : Entries) (prior before : StateView)
    (h : ReadAs texts lineage config values prior) (k : ReadAs texts other again others before) where
  config_same : again ≡ config
  config_same = same_config laws.one laws.values texts lineage other config again values others prior before h k

  values_same : others ≡ values
  values_same = same_values laws.one laws.values texts lineage other config again values others prior before h k

  before_same : without_lineage before ≡ without_lineage prior
  before_same = prior_apart laws.state texts.state lineage other prior before h.before k.before

  resources_same : before.resources ≡ prior.resources
  resources_same = ap (λ (s : StateView). s.resources) before_same

  plan_over : (plan : PlanView) → IsPlan ms again others before plan → IsPlan ms config values prior (from_state prior plan)
  plan_over plan is = planned_over ms again config others values before prior plan config_same values_same resources_same is

  refusals_over : (refusal_views : List RefusalView) → AreRefused ms again others before refusal_views → AreRefused ms config values prior refusal_views
  refusals_over refusal_views is = refused_over ms config again values others prior before refusal_views config_same values_same resources_same is

-- ---- one plan

module _ (laws : Laws) (ms : List Meaning) (texts : Texts) (lineage other : List ℕ) (p q : PlanView) (first : IsPlanOf ms texts lineage p) (second : IsPlanOf ms texts other q) where
  own_orderly : AreOrderly first.config first.prior
  own_orderly = orderly laws texts lineage first.config first.values first.prior first.stand

  over_own : IsPlan ms first.config first.values first.prior (from_state first.prior q)
  over_own = plan_over laws ms texts lineage other first.config second.config first.values second.values first.prior second.prior first.stand second.stand q second.planned

  priors : without_lineage q.prior ≡ without_lineage p.prior
  priors =
      ap without_lineage second.planned.prior
      ∙ before_same laws ms texts lineage other first.config second.config first.values second.values first.prior second.prior first.stand second.stand
      ∙ sym (ap without_lineage first.planned.prior)

  one_apart : PlansAreOne → AreOne p (from_state p.prior q)
  one_apart law =
      subst (λ (s : StateView). AreOne p (from_state s q)) (sym first.planned.prior)
      (law ms first.config first.values first.prior p (from_state first.prior q) own_orderly first.planned over_own)

  pub shown_one : PlanTextsAreOne → plan_text p.late p.actions ≡ plan_text q.late q.actions
  shown_one law = law ms first.config first.values first.prior p (from_state first.prior q) own_orderly first.planned over_own

pub one_plan_apart : Laws → PlansAreOne → TextsHaveOnePlanApart
one_plan_apart laws law ms texts lineage other p q first second = record {
  prior = priors laws ms texts lineage other p q first second;
  same = one_apart laws ms texts lineage other p q first second law;
}

pub one_plan : Laws → PlansAreOne → TextsHaveOnePlan
one_plan laws law ms texts lineage p q first second =
    let one = stand_for_one laws.one laws.values laws.state texts lineage first.config second.config first.values second.values first.prior second.prior first.stand second.stand in
    let same : q.prior ≡ first.prior = second.planned.prior ∙ one.2 in
    law ms first.config first.values first.prior p q
    (own_orderly laws ms texts lineage lineage p q first second) first.planned
    (subst (λ (s : StateView). IsPlan ms first.config first.values first.prior (from_state s q)) (sym same) (over_own laws ms texts lineage lineage p q first second))

pub one_text : Laws → PlanTextsAreOne → TextsShowOnePlan
one_text laws law ms texts shown other h k = h.shown ∙ shown_one laws ms texts h.lineage k.lineage h.plan k.plan h.planned k.planned law ∙ sym k.shown

pub applies_show : Laws → PlanTextsAreOne → AppliesShowThePlan
applies_show laws law ms texts lineage shown a h is =
    is.carried_out.shown ∙ shown_one laws ms texts lineage h.lineage is.plan h.plan is.planned h.planned law ∙ sym h.shown

-- ---- refusals

pub not_refused : Laws → PlansAreNotRefused → PlannedTextsAreNotRefused
not_refused laws law ms texts lineage plan refusal_views is refused =
    law ms is.config is.values is.prior plan refusal_views (orderly laws texts lineage is.config is.values is.prior is.stand) is.planned
    (refusals_over laws ms texts lineage refused.lineage is.config refused.config is.values refused.values is.prior refused.prior is.stand refused.stand refusal_views refused.refused)

pub one_refusals : Laws → RefusalsAreOne → RefusalsOfTextsAreOne
one_refusals laws law ms texts refusal_views others is also =
    law ms is.config is.values is.prior refusal_views others (orderly laws texts is.lineage is.config is.values is.prior is.stand) is.refused
    (refusals_over laws ms texts is.lineage also.lineage is.config also.config is.values also.values is.prior also.prior is.stand also.stand others also.refused)
