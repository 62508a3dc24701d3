-- Two refusals of the same texts tell the same fault.
use Rattle.std.proofs.Common.{◌≡◌, ◌⊎◌, ◌∙◌, ℕ, List, [], ◌∷◌, Option, Some, None, inl, inr, refl, sym, subst}
use Rattle.tf_laws.proofs.Reading.{one_config}
use Rattle.tf_cli.specs.Refusals.{IsPlanRefused, IsRefusedAlone}
use Rattle.tf_config_data.specs.Config.{ConfigView}
use Rattle.tf_cli_inputs.specs.Refusals.{AreNamesRefused, AreValuesRefused, IsStateRefused, IsToldOf, IsToldOfState}
use Rattle.tf_cli_inputs.specs.Texts.{AreNamesGood, IsRead, Texts}
use Rattle.tf_config_names.specs.Judging.{RefusesItsNames}
use Rattle.tf_provider_protocol.specs.Meaning.{Meaning}
use Rattle.tf_config_refusal.specs.Refusal.{RefusalView, no_memory}
use Rattle.tf_config_json.specs.VariablesRead as variables
use Rattle.tf_laws.proofs.Faultless.{config_read}
use Rattle.tf_laws.proofs.Once.{config_once, names_once, state_once, variables_once}
use Rattle.tf_laws.proofs.UnrefusedTexts.{names_stand, none_told, values_stand}
use Rattle.tf_laws.specs.ReadingLaws.{Laws}
use Rattle.tf_laws.specs.TextPlans.{RefusalsOfTextsAreOne}
use Rattle.tf_laws.specs.Refusals.{ApplyRefusalsTellTheSame, PlannedTextsHaveNoRefusals, RefusalsTellTheSame, RefusedReadingsAreOne, TellTheSameFault, TellTheSameFaults}

-- ---- what is told from a test on

-- the variables or the state are refused
abbrev AreLaterRefused : Texts → RefusalView → Type 0
AreLaterRefused texts refusal = AreValuesRefused texts refusal ⊎ IsStateRefused texts refusal

-- the names are, or what is tested after them
abbrev AreReadRefused : Texts → RefusalView → Type 0
AreReadRefused texts refusal = AreNamesRefused texts refusal ⊎ AreLaterRefused texts refusal

-- a configuration was read, whose names are good
named_in : (texts : Texts) (refusal : RefusalView) → AreLaterRefused texts refusal → (config : ConfigView) × IsRead texts.config config × AreNamesGood config
named_in texts refusal h = elim h [ inl values ↦ (values.config, values.read, values.names) | inr state ↦ (state.config, state.read, state.names) ]

read_in : (texts : Texts) (refusal : RefusalView) → AreReadRefused texts refusal → (config : ConfigView) × IsRead texts.config config
read_in texts refusal h = elim h [ inl names ↦ (names.config, names.read) | inr later ↦ let found = named_in texts refusal later in (found.0, found.1) ]

-- ---- two refusals

state_told : (state : Option (List ℕ)) (first second : RefusalView) → (first ≡ no_memory → ⊥) → (second ≡ no_memory → ⊥) → IsToldOfState state first → IsToldOfState state second → first ≡ second
state_told None first second some more h k = absurd (some h)
state_told (Some bytes) first second some more h k =
    h.refused ∙ state_once bytes h.why k.why (λ e. some (h.refused ∙ e)) (λ e. more (k.refused ∙ e)) h.unread k.unread ∙ sym k.refused

module _ (laws : Laws) (texts : Texts) (first second : RefusalView) (some : first ≡ no_memory → ⊥) (more : second ≡ no_memory → ⊥) where
  names_one : AreNamesRefused texts first → AreNamesRefused texts second → first ≡ second
  names_one h k = names_once k.config first second some more (subst (λ (c : ConfigView). RefusesItsNames c first) (one_config laws.one texts.config h.config k.config h.read k.read) h.refused) k.refused

  values_one : AreValuesRefused texts first → AreValuesRefused texts second → first ≡ second
  values_one h k =
      variables_once texts.vars k.config.variables first second some more
      (subst (λ (c : ConfigView). variables.IsRefused texts.vars c.variables first) (one_config laws.one texts.config h.config k.config h.read k.read) h.refused) k.refused

  later_one : AreLaterRefused texts first → AreLaterRefused texts second → first ≡ second
  later_one h k = elim h [
    | inl values ↦ elim k [ inl also ↦ values_one values also | inr state ↦ absurd (values_stand laws texts state.config first some state.read state.values state.valued values) ]
    | inr state ↦ elim k [
      | inl values ↦ absurd (values_stand laws texts state.config second more state.read state.values state.valued values)
      | inr also ↦ state_told texts.state first second some more state.refused also.refused
    ]
  ]

  read_one : AreReadRefused texts first → AreReadRefused texts second → first ≡ second
  read_one h k = elim h [
    | inl names ↦ elim k [ inl also ↦ names_one names also | inr later ↦ let good = named_in texts second later in absurd (names_stand laws texts good.0 first some good.1 good.2 names) ]
    | inr later ↦ elim k [ inl names ↦ let good = named_in texts first later in absurd (names_stand laws texts good.0 second more good.1 good.2 names) | inr also ↦ later_one later also ]
  ]

  told_one : IsToldOf texts first → IsToldOf texts second → TellTheSameFault texts first second
  told_one h k = elim h [
    | inl shape ↦ elim k [
      | inl also ↦ config_once laws.once texts first second some more shape also
      | inr rest ↦ let read = read_in texts second rest in absurd (config_read laws.not_read texts.config read.0 first some read.1 shape)
    ]
    | inr rest ↦ elim k [
      | inl shape ↦ let read = read_in texts first rest in absurd (config_read laws.not_read texts.config read.0 second more read.1 shape)
      | inr also ↦ inl (read_one rest also)
    ]
  ]

pub refused_readings_one : Laws → RefusedReadingsAreOne
refused_readings_one laws texts first second h k some more = told_one laws texts first second some more h k

-- ---- lists

same_list : (texts : Texts) (ts : List RefusalView) → TellTheSameFaults texts ts ts
same_list texts [] = tt
same_list texts (t ∷ ts) = (inl refl, same_list texts ts)

alike : (texts : Texts) (ts us : List RefusalView) → ts ≡ us → TellTheSameFaults texts ts us
alike texts ts us same = subst (TellTheSameFaults texts ts) same (same_list texts ts)

one_each : (texts : Texts) (ts us : List RefusalView) (t u : RefusalView) → ts ≡ t ∷ [] → us ≡ u ∷ [] → TellTheSameFault texts t u → TellTheSameFaults texts ts us
one_each texts ts us t u first second same =
    subst (λ (l : List RefusalView). TellTheSameFaults texts l us) (sym first) (subst (TellTheSameFaults texts (t ∷ [])) (sym second) (same, tt))

-- what is refused alone and what has a plan that is refused are apart
read_apart : Laws → (ms : List Meaning) (texts : Texts) (refusal_views others : List RefusalView) → IsRefusedAlone texts refusal_views → IsPlanRefused ms texts others → ⊥
read_apart laws ms texts refusal_views others alone planned = none_told laws texts planned.lineage planned.config planned.values planned.prior alone.refusal alone.some planned.stand alone.said

pub refusals_one : Laws → RefusalsOfTextsAreOne → RefusalsTellTheSame
refusals_one laws law ms texts refusal_views others h k = elim h [
  | inl alone ↦ elim k [
    | inl also ↦ one_each texts refusal_views others alone.refusal also.refusal alone.alone also.alone (told_one laws texts alone.refusal also.refusal alone.some also.some alone.said also.said)
    | inr planned ↦ absurd (read_apart laws ms texts refusal_views others alone planned)
  ]
  | inr planned ↦ elim k [
    | inl alone ↦ absurd (read_apart laws ms texts others refusal_views alone planned)
    | inr also ↦ alike texts refusal_views others (law ms texts refusal_views others planned also)
  ]
]

pub apply_refusals_one : Laws → RefusalsOfTextsAreOne → PlannedTextsHaveNoRefusals → ApplyRefusalsTellTheSame
apply_refusals_one laws law none ms texts lineage other count refusal_views others h k = elim h [
  | inl refused ↦ elim k [
    | inl also ↦ refusals_one laws law ms texts refusal_views others refused also
    | inr number ↦ absurd (none ms texts other number.plan refusal_views number.planned refused)
  ]
  | inr number ↦ elim k [
    | inl refused ↦ absurd (none ms texts lineage number.plan others number.planned refused)
    | inr also ↦ alike texts refusal_views others (number.wrong.1 ∙ sym also.wrong.1)
  ]
]
