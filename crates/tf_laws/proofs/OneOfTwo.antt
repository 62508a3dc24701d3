-- Of texts one of two holds.
use Rattle.std.proofs.Common.{◌≡◌, ◌⊎◌, ℕ, Bool, true, false, List, [], ◌∷◌, inl, inr, refl, arith}
use Rattle.tf_config_json.specs.Demand.{Checks}
use Rattle.tf_config_json.specs.Laws.{NamesAreFew}
use Rattle.tf_cli_inputs.specs.Texts.{Texts}
use Rattle.tf_config_refusal.specs.Check.{AllMet}
use Rattle.tf_laws.specs.Plans.{PlannedOrRefused}
use Rattle.tf_provider_protocol.specs.Meaning.{Meaning}
use Rattle.tf_config_refusal.specs.Refusal.{workers}
use Rattle.tf_walk.specs.Workers.{are_workers}
use Rattle.tf_laws.proofs.DecidedChecks.{IsDemandDecided, IsTemplateDecided, all_decided, demand_decided}
use Rattle.tf_laws.proofs.ToldOf.{Resolved, texts_told}
use Rattle.tf_laws.specs.OneOfTwo.{AppliesHavePlanOrRefusals, AreRead, AreToldOf, HavePlan, HaveRefusals, PlansAreTold, ReadingsAreTold, TemplatesAreTold, TextsAreReadOrRefused, TextsHavePlanOrRefusals}

-- ---- which checks are decided

-- where it can be told of templates, it can of all checks
by_templates : (R : Type 0) → TemplatesAreTold → (checks : Checks) → (AllMet IsDemandDecided checks → R) → R
by_templates R told = all_decided R IsDemandDecided (demand_decided R (λ text on. on (told text)))

-- what can't be, whichever way a template is decided, can't be
undecided : (text : List ℕ) → (IsTemplateDecided text → ⊥) → ⊥
undecided text on = on (inr (λ w is. on (inl (w, is))))

never : (checks : Checks) → (AllMet IsDemandDecided checks → ⊥) → ⊥
never = all_decided ⊥ IsDemandDecided (demand_decided ⊥ undecided)

-- ---- readings

pub never_unread : Resolved → TextsAreReadOrRefused
never_unread laws texts lineage neither = texts_told laws ⊥ never texts lineage neither.0 neither.1

pub readings_told : Resolved → ReadingsAreTold
readings_told laws told texts lineage = let R : Type 0 = AreRead texts lineage ⊎ AreToldOf texts in texts_told laws R (by_templates R told) texts lineage inl inr

-- ---- plans

-- the laws of what is planned of what was read
pub record Planning : Type 0 where
  pub few : NamesAreFew
  pub planned : PlannedOrRefused

module _ (laws : Planning) (ms : List Meaning) (texts : Texts) (lineage : List ℕ) where
  -- what was read has a plan, or it is refused
  of_read : AreRead texts lineage → HavePlan ms texts lineage ⊎ HaveRefusals ms texts
  of_read (config, values, prior, stand) =
      let few = laws.few config stand.read.counts in
      elim (laws.planned ms config values prior (omega (arith, few)) stand.names.acyclic) [
        | inl plan ↦ inl (plan.0, record { config = config; values = values; prior = prior; stand = stand; planned = plan.1 })
        | inr told ↦ inr (told.0, inr (record { lineage = lineage; config = config; values = values; prior = prior; stand = stand; refused = told.1 }))
      ]

  -- what is told of texts that can't be read is a list of refusals
  of_told : AreToldOf texts → HaveRefusals ms texts
  of_told (refusal, some, said) = (refusal ∷ [], inl (record { refusal = refusal; said = said; some = some; alone = refl }))

  pub of_either : AreRead texts lineage ⊎ AreToldOf texts → HavePlan ms texts lineage ⊎ HaveRefusals ms texts
  of_either (inl read) = of_read read
  of_either (inr told) = inr (of_told told)

pub never_unplanned : Resolved → Planning → TextsHavePlanOrRefusals
never_unplanned resolved laws ms texts lineage neither =
    let on : HavePlan ms texts lineage ⊎ HaveRefusals ms texts → ⊥ = λ either. elim either [ inl plan ↦ neither.0 plan | inr refusals ↦ neither.1 refusals ] in
    never_unread resolved texts lineage (λ read. on (of_either laws ms texts lineage (inl read)), λ told. on (of_either laws ms texts lineage (inr told)))

pub plans_told : Resolved → Planning → PlansAreTold
plans_told resolved laws told ms texts lineage = of_either laws ms texts lineage (readings_told resolved told texts lineage)

-- ---- applies

pub never_unapplied : Resolved → Planning → AppliesHavePlanOrRefusals
never_unapplied resolved laws ms texts lineage count neither = never_unplanned resolved laws ms texts lineage (
  λ plan. by_count (are_workers count) refl plan,
  λ refusals. neither.1 (refusals.0, inl refusals.1),
)
  where
    by_count : (b : Bool) → are_workers count ≡ b → HavePlan ms texts lineage → ⊥
    by_count true e plan = neither.0 (plan, e)
    by_count false e plan = neither.1 (workers ∷ [], inr (record { plan = plan.0; planned = plan.1; wrong = (e, refl) }))
