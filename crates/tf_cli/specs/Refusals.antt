-- What is refused of the user's texts.
use Rattle.std.specs.Prelude.{◌≡◌, ◌≢◌, ◌⊎◌, false, List, [], ◌∷◌, map, ℕ}
use Rattle.tf_config_data.specs.Config.{ConfigView}
use Rattle.tf_cli_inputs.specs.Refusals.{IsToldOf}
use Rattle.tf_cli_inputs.specs.Texts.{Texts, ReadAs}
use Rattle.tf_plan_planner.specs.Refused.{AreRefused}
use Rattle.tf_plan_planner.specs.declared.refused.Refused.{Refused}
use Rattle.tf_plan_planner.specs.declared.refused.Refused.TheVariants.{NoMemory, These}
use Rattle.tf_provider_protocol.specs.Meaning.{Meaning}
use Rattle.tf_plan_data.specs.Plan.{PlanView}
use Rattle.tf_config_refusal.specs.Refusal.{RefusalView, no_memory, refusal_of, workers}
use Rattle.tf_walk.specs.Workers.{are_workers}
use Rattle.tf_state_data.specs.State.{StateView}
use Rattle.tf_value_data.specs.Tree.{Entries}
use Rattle.tf_cli.specs.Applies.{IsPlanOf}

-- Texts that can't be read have one refusal.
pub record IsRefusedAlone (texts : Texts) (refusal_views : List RefusalView) : Type 0 where
  pub refusal : RefusalView
  pub said : IsToldOf texts refusal
  pub some : refusal ≢ no_memory
  pub alone : refusal_views ≡ refusal ∷ []

-- The texts can be read, and these are all refusals of their plan.
pub record IsPlanRefused (ms : List Meaning) (texts : Texts) (refusal_views : List RefusalView) : Type 0 where
  pub lineage : List ℕ
  pub config : ConfigView
  pub values : Entries
  pub prior : StateView
  pub stand : ReadAs texts lineage config values prior
  pub refused : AreRefused ms config values prior refusal_views

-- what is refused of texts, in the order of tests
abbrev pub AreRefusals : List Meaning → Texts → List RefusalView → Type 0
AreRefusals ms texts refusal_views = IsRefusedAlone texts refusal_views ⊎ IsPlanRefused ms texts refusal_views

-- A plan may not have this number of workers; that is the one refusal.
abbrev pub IsNumberRefused : ℕ → List RefusalView → Type 0
IsNumberRefused count refusal_views = (are_workers count ≡ false) × (refusal_views ≡ workers ∷ [])

-- The texts have a plan, and it may not have this number of workers; nothing else is refused.
pub record IsRefusedByNumber (ms : List Meaning) (texts : Texts) (lineage : List ℕ) (count : ℕ) (refusal_views : List RefusalView) : Type 0 where
  pub plan : PlanView
  pub planned : IsPlanOf ms texts lineage plan
  pub wrong : IsNumberRefused count refusal_views

-- what is refused of an apply of texts by this number of workers
abbrev pub AreApplyRefusals : List Meaning → Texts → List ℕ → ℕ → List RefusalView → Type 0
AreApplyRefusals ms texts lineage count refusal_views = AreRefusals ms texts refusal_views ⊎ IsRefusedByNumber ms texts lineage count refusal_views

-- one refusal, or memory ran out
abbrev pub RefusesBy : RefusalView → Refused → Type 0
RefusesBy t NoMemory = Unit {0}
RefusesBy t (These refusals) = (map refusal_of refusals.items ≡ t ∷ []) × (t ≢ no_memory)
