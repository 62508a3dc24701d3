-- That one of two holds for texts: they can be read or have a refusal; they have a plan or refusals.
use Rattle.std.specs.Prelude.{◌≡◌, ◌≢◌, ◌⊎◌, ℕ, true, List}
use Rattle.tf_cli.specs.Applies.{IsPlanOf}
use Rattle.tf_cli.specs.Refusals.{AreApplyRefusals, AreRefusals}
use Rattle.tf_config_data.specs.Config.{ConfigView}
use Rattle.tf_expr_json.specs.Demand.{IsTemplate}
use Rattle.tf_cli_inputs.specs.Refusals.{IsToldOf}
use Rattle.tf_cli_inputs.specs.Texts.{ReadAs, Texts}
use Rattle.tf_plan_data.specs.Plan.{PlanView}
use Rattle.tf_provider_protocol.specs.Meaning.{Meaning}
use Rattle.tf_config_refusal.specs.Refusal.{RefusalView, no_memory}
use Rattle.tf_walk.specs.Workers.{are_workers}
use Rattle.tf_state_data.specs.State.{StateView}
use Rattle.tf_expr_syntax.specs.TemplateTree.{Woven}
use Rattle.tf_value_data.specs.Tree.{Entries}

-- the two aren't both false
abbrev pub NeverNeither : Type 0 → Type 0 → Type 0
NeverNeither A B = ¬ (¬ A × ¬ B)

-- texts read as a configuration, values of its variables and a prior state
abbrev pub AreRead : Texts → List ℕ → Type 0
AreRead texts lineage = (config : ConfigView) × (values : Entries) × (prior : StateView) × ReadAs texts lineage config values prior

-- texts have a refusal other than out of memory
abbrev pub AreToldOf : Texts → Type 0
AreToldOf texts = (refusal : RefusalView) × (refusal ≢ no_memory) × IsToldOf texts refusal

-- texts have a plan
abbrev pub HavePlan : List Meaning → Texts → List ℕ → Type 0
HavePlan ms texts lineage = (plan : PlanView) × IsPlanOf ms texts lineage plan

-- texts have refusals
abbrev pub HaveRefusals : List Meaning → Texts → Type 0
HaveRefusals ms texts = (refusal_views : List RefusalView) × AreRefusals ms texts refusal_views

-- Texts can't be both unreadable and without a refusal other than out of memory.
abbrev pub TextsAreReadOrRefused : Type 0
TextsAreReadOrRefused = (texts : Texts) (lineage : List ℕ) → NeverNeither (AreRead texts lineage) (AreToldOf texts)

-- Texts can't have neither a plan nor refusals.
abbrev pub TextsHavePlanOrRefusals : Type 0
TextsHavePlanOrRefusals = (ms : List Meaning) (texts : Texts) (lineage : List ℕ) → NeverNeither (HavePlan ms texts lineage) (HaveRefusals ms texts)

-- For an apply by the given number of workers, texts can't have neither a plan that these workers may carry out nor refusals.
abbrev pub AppliesHavePlanOrRefusals : Type 0
AppliesHavePlanOrRefusals =
    (ms : List Meaning) (texts : Texts) (lineage : List ℕ) (count : ℕ)
    → NeverNeither (HavePlan ms texts lineage × (are_workers count ≡ true)) ((refusal_views : List RefusalView) × AreApplyRefusals ms texts lineage count refusal_views)

-- one can decide of each text whether it is a template within the depth limit
abbrev pub TemplatesAreTold : Type 0
TemplatesAreTold = (text : List ℕ) → ((w : Woven) × IsTemplate w text) ⊎ ((w : Woven) → ¬ IsTemplate w text)

-- If one can decide that, one can decide whether texts can be read or have a refusal.
abbrev pub ReadingsAreTold : Type 0
ReadingsAreTold = TemplatesAreTold → (texts : Texts) (lineage : List ℕ) → AreRead texts lineage ⊎ AreToldOf texts

-- One can also decide whether they have a plan or refusals.
abbrev pub PlansAreTold : Type 0
PlansAreTold = TemplatesAreTold → (ms : List Meaning) (texts : Texts) (lineage : List ℕ) → HavePlan ms texts lineage ⊎ HaveRefusals ms texts
