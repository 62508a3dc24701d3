-- The refusals of reading texts: texts that can't be read have one fault, and texts that can be read have no fault.
use Rattle.std.specs.Prelude.{◌≡◌, ◌≢◌, ◌⊎◌, ℕ, List, [], ◌∷◌, ⊤}
use Rattle.tf_cli.specs.Applies.{IsPlanOf}
use Rattle.tf_cli.specs.Refusals.{AreApplyRefusals, AreRefusals}
use Rattle.tf_config_json.specs.Laws.{IsTemplateWay, IsUnspelled}
use Rattle.tf_config_data.specs.Config.{ConfigView}
use Rattle.tf_cli_inputs.specs.Refusals.{IsToldOf}
use Rattle.tf_cli_inputs.specs.Texts.{ReadAs, Texts}
use Rattle.tf_plan_data.specs.Plan.{PlanView}
use Rattle.tf_provider_protocol.specs.Meaning.{Meaning}
use Rattle.tf_config_refusal.specs.Refusal.{RefusalView, fault, no_memory, Way}
use Rattle.tf_state_data.specs.State.{StateView}
use Rattle.tf_value_data.specs.Tree.{Entries}

-- If texts can be read, the only refusal of reading them is out of memory.
abbrev pub ReadTextsAreNotRefused : Type 0
ReadTextsAreNotRefused =
    (texts : Texts) (lineage : List ℕ) (config : ConfigView) (values : Entries) (prior : StateView) (refusal : RefusalView)
    → ReadAs texts lineage config values prior → IsToldOf texts refusal → refusal ≡ no_memory

-- So if texts have a plan, no list is the list of their refusals.
abbrev pub PlannedTextsHaveNoRefusals : Type 0
PlannedTextsHaveNoRefusals = (ms : List Meaning) (texts : Texts) (lineage : List ℕ) (plan : PlanView) (refusal_views : List RefusalView) → IsPlanOf ms texts lineage plan → ¬ AreRefusals ms texts refusal_views

-- Both refusals are about one text in the configuration, at one place, that spells no template: each gives an offset in it, or
-- says that it is too deep.
pub record AreOfNoTemplate (texts : Texts) (first second : RefusalView) : Type 0 where
  pub place : List ℕ
  pub way : Way
  pub other : Way
  pub unspelled : IsUnspelled texts.config place
  pub told : (first ≡ fault way.0 place way.1) × IsTemplateWay way
  pub told_too : (second ≡ fault other.0 place other.1) × IsTemplateWay other

-- Two refusals report the same fault: they are equal, or about one text in the configuration that spells no template.
abbrev pub TellTheSameFault : Texts → RefusalView → RefusalView → Type 0
TellTheSameFault texts first second = (first ≡ second) ⊎ AreOfNoTemplate texts first second

-- Two refusals of the same texts that can't be read report the same fault, if neither is out of memory.
abbrev pub RefusedReadingsAreOne : Type 0
RefusedReadingsAreOne =
    (texts : Texts) (first second : RefusalView) → IsToldOf texts first → IsToldOf texts second → first ≢ no_memory → second ≢ no_memory → TellTheSameFault texts first second

-- two lists of equal length report the same faults, in the same order
abbrev pub TellTheSameFaults : Texts → List RefusalView → List RefusalView → Type 0
TellTheSameFaults texts [] [] = ⊤
TellTheSameFaults texts (t ∷ ts) (u ∷ us) = TellTheSameFault texts t u × TellTheSameFaults texts ts us
TellTheSameFaults texts _ _ = ⊥

-- So two lists of refusals of the same texts report the same faults.
abbrev pub RefusalsTellTheSame : Type 0
RefusalsTellTheSame = (ms : List Meaning) (texts : Texts) (refusal_views others : List RefusalView) → AreRefusals ms texts refusal_views → AreRefusals ms texts others → TellTheSameFaults texts refusal_views others

-- So do two lists of refusals of an apply of the texts by the given number of workers.
abbrev pub ApplyRefusalsTellTheSame : Type 0
ApplyRefusalsTellTheSame =
    (ms : List Meaning) (texts : Texts) (lineage other : List ℕ) (count : ℕ) (refusal_views others : List RefusalView)
    → AreApplyRefusals ms texts lineage count refusal_views → AreApplyRefusals ms texts other count others → TellTheSameFaults texts refusal_views others
