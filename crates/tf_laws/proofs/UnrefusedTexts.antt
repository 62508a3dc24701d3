-- Of texts that read as something nothing is told but want of memory.
use Rattle.std.proofs.Common.{◌≡◌, ℕ, List, Option, Some, None, inl, inr, refl, subst, arith}
use Rattle.tf_laws.proofs.Faultless.{config_read, names_good, values_good}
use Rattle.tf_laws.proofs.Reading.{one_config}
use Rattle.tf_config_data.specs.Config.{ConfigView}
use Rattle.tf_cli_inputs.specs.Refusals.{AreNamesRefused, AreValuesRefused, IsToldOf, IsToldOfState, fault_told}
use Rattle.tf_cli_inputs.specs.Texts.{AreNamesGood, AreTheValues, IsPrior, IsRead, ReadAs, Texts}
use Rattle.tf_config_names.specs.Judging.{RefusesItsNames}
use Rattle.tf_config_refusal.specs.Refusal.{RefusalView, fault, no_memory, workers}
use Rattle.tf_state.specs.Laws.{TextIsOfOne}
use Rattle.tf_state.specs.Table.{IsBeyond, IsPlannable, IsUnread, Reads}
use Rattle.tf_state.specs.declared.fault.StateFault.{StateFault}
use Rattle.tf_state.specs.declared.fault.StateFault.TheVariants.{BadState, Limit, OutOfMemory}
use Rattle.tf_state_data.specs.State.{StateView}
use Rattle.tf_value_data.specs.Tree.{Entries}
use Rattle.tf_config_json.specs.VariablesRead as variables
use Rattle.tf_laws.specs.ReadingLaws.{Laws}
use Rattle.tf_laws.specs.TextPlans.{PlannedTextsAreNotRefused}
use Rattle.tf_laws.specs.Refusals.{PlannedTextsHaveNoRefusals, ReadTextsAreNotRefused}

-- ---- the state

within : (s : StateView) → IsPlannable s → IsBeyond s → ⊥
within s fits beyond = elim beyond [ inl many ↦ absurd (omega (arith, fits.0, many)) | inr last ↦ absurd (omega (arith, fits.1, last)) ]

state_read : TextIsOfOne → (bytes : List ℕ) (s : StateView) (why : StateFault) (refusal : RefusalView) → (refusal ≡ no_memory → ⊥) → Reads bytes s → IsPlannable s → IsUnread bytes why → refusal ≡ fault_told why → ⊥
state_read one bytes s BadState refusal some reads fits unread is = unread s reads
state_read one bytes s Limit refusal some reads fits unread is = within s fits (subst IsBeyond (one bytes unread.0 s unread.1 reads) unread.2)
state_read one bytes s OutOfMemory refusal some reads fits unread is = some is

state_good : TextIsOfOne → (state : Option (List ℕ)) (lineage : List ℕ) (prior : StateView) (refusal : RefusalView) → (refusal ≡ no_memory → ⊥) → IsPrior state lineage prior → IsToldOfState state refusal → ⊥
state_good one None lineage prior refusal some before told = some told
state_good one (Some bytes) lineage prior refusal some before told = state_read one bytes prior told.why refusal some before.0 before.1 told.unread told.refused

-- ---- each part that was read

module _ (laws : Laws) (texts : Texts) (config : ConfigView) (refusal : RefusalView) (some : refusal ≡ no_memory → ⊥) (read : IsRead texts.config config) where
  pub names_stand : AreNamesGood config → AreNamesRefused texts refusal → ⊥
  names_stand good h = names_good config refusal some good (subst (λ (c : ConfigView). RefusesItsNames c refusal) (one_config laws.one texts.config h.config config h.read read) h.refused)

  pub values_stand : (values : Entries) → AreTheValues texts.vars config values → AreValuesRefused texts refusal → ⊥
  values_stand values valued h =
      values_good laws.faultless texts.vars config values refusal some valued
      (subst (λ (c : ConfigView). variables.IsRefused texts.vars c.variables refusal) (one_config laws.one texts.config h.config config h.read read) h.refused)

pub none_told : Laws → (texts : Texts) (lineage : List ℕ) (config : ConfigView) (values : Entries) (prior : StateView) (refusal : RefusalView) → (refusal ≡ no_memory → ⊥) → ReadAs texts lineage config values prior → IsToldOf texts refusal → ⊥
none_told laws texts lineage config values prior refusal some stand told = elim told [
  | inl shape ↦ config_read laws.not_read texts.config config refusal some stand.read shape
  | inr rest ↦ elim rest [
    | inl names ↦ names_stand laws texts config refusal some stand.read stand.names names
    | inr later ↦ elim later [
      | inl valued ↦ values_stand laws texts config refusal some stand.read values stand.valued valued
      | inr state ↦ state_good laws.state texts.state lineage prior refusal some stand.before state.refused
    ]
  ]
]

-- ---- nothing else is told

only_memory : (refusal : RefusalView) → ((refusal ≡ no_memory → ⊥) → ⊥) → refusal ≡ no_memory
only_memory no_memory h = refl
only_memory workers h = absurd (h (λ e. absurd (cc)))
only_memory (fault code place detail) h = absurd (h (λ e. absurd (cc)))

pub read_not_refused : Laws → ReadTextsAreNotRefused
read_not_refused laws texts lineage config values prior refusal stand told = only_memory refusal (λ some. none_told laws texts lineage config values prior refusal some stand told)

pub no_refusals : Laws → PlannedTextsAreNotRefused → PlannedTextsHaveNoRefusals
no_refusals laws law ms texts lineage plan refusal_views is refused = elim refused [
  | inl alone ↦ none_told laws texts lineage is.config is.values is.prior alone.refusal alone.some is.stand alone.said
  | inr planned ↦ law ms texts lineage plan refusal_views is planned
]
