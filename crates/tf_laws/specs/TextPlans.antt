-- The plan, or its refusals, of the texts that a user gives.
use Rattle.std.specs.Prelude.{◌≡◌, ℕ, List, string_bytes}
use Rattle.tf_cli.specs.Applies.{IsApplied, IsPlanOf, IsPlanText}
use Rattle.tf_cli.specs.Refusals.{IsPlanRefused}
use Rattle.tf_cli_text.specs.declared.applied.Applied.{Applied}
use Rattle.tf_cli_inputs.specs.Texts.{Texts}
use Rattle.tf_laws.specs.Plans.{AreOne}
use Rattle.tf_laws.specs.Readings.{without_lineage}
use Rattle.tf_plan_data.specs.Plan.{PlanView}
use Rattle.tf_provider_protocol.specs.Meaning.{Meaning}
use Rattle.tf_config_refusal.specs.Refusal.{RefusalView}
use Rattle.tf_state_data.specs.State.{StateView}

-- Texts have one plan, if a new state has one lineage.
abbrev pub TextsHaveOnePlan : Type 0
TextsHaveOnePlan = (ms : List Meaning) (texts : Texts) (lineage : List ℕ) (p q : PlanView) → IsPlanOf ms texts lineage p → IsPlanOf ms texts lineage q → AreOne p q

-- a plan with this state as the one that it starts from
abbrev pub from_state : StateView → PlanView → PlanView
from_state s plan = record plan { prior = s }

-- Two plans are the same, except for the lineage of the state that they start from.
pub record AreOneApart (p q : PlanView) : Type 0 where
  pub prior : without_lineage q.prior ≡ without_lineage p.prior
  pub same : AreOne p (from_state p.prior q)

-- With different lineages, texts have one plan with that exception: its actions, their order and everything else are the same.
abbrev pub TextsHaveOnePlanApart : Type 0
TextsHaveOnePlanApart = (ms : List Meaning) (texts : Texts) (lineage other : List ℕ) (p q : PlanView) → IsPlanOf ms texts lineage p → IsPlanOf ms texts other q → AreOneApart p q

-- So the plan of texts has one text.
abbrev pub TextsShowOnePlan : Type 0
TextsShowOnePlan = (ms : List Meaning) (texts : Texts) (shown other : List ℕ) → IsPlanText ms texts shown → IsPlanText ms texts other → shown ≡ other

-- An apply of the texts shows that text, with any lineage.
abbrev pub AppliesShowThePlan : Type 0
AppliesShowThePlan = (ms : List Meaning) (texts : Texts) (lineage shown : List ℕ) (a : Applied) → IsPlanText ms texts shown → IsApplied ms texts lineage a → string_bytes a.plan ≡ shown

-- If texts have a plan, no list is the list of refusals of their plan.
abbrev pub PlannedTextsAreNotRefused : Type 0
PlannedTextsAreNotRefused = (ms : List Meaning) (texts : Texts) (lineage : List ℕ) (plan : PlanView) (refusal_views : List RefusalView) → IsPlanOf ms texts lineage plan → ¬ IsPlanRefused ms texts refusal_views

-- Two lists of refusals of the plan of texts are equal.
abbrev pub RefusalsOfTextsAreOne : Type 0
RefusalsOfTextsAreOne = (ms : List Meaning) (texts : Texts) (refusal_views others : List RefusalView) → IsPlanRefused ms texts refusal_views → IsPlanRefused ms texts others → refusal_views ≡ others
