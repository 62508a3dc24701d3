-- The plan of texts.
use Rattle.std.proofs.Common.{ℕ, List, Ok, Err, Result, inl, inr, arith, map, subst, sym}
use Rattle.std.specs.Prelude.{IfOk}
use Rattle.tf_config_data.specs.Config.{ConfigView}
use Rattle.tf_cli_inputs.specs.Texts.{ReadAs, Texts}
use Rattle.tf_plan_planner.specs.Plan.{IsPlan}
use Rattle.tf_plan_planner.specs.Refused.{ArePlanRefusals, AreRefused, Tells}
use Rattle.tf_plan_planner.specs.declared.refused.Refused.{Refused}
use Rattle.tf_plan_planner.specs.declared.refused.Refused.TheVariants.{NoMemory, These}
use Rattle.tf_state.specs.Table.{IsBeyond, IsPlannable}
use Rattle.tf_plan_data.specs.Plan.{plan_of}
use Rattle.tf_plan_data.specs.declared.plan.Plan.{Plan}
use Rattle.tf_provider_protocol.specs.Meaning.{Meaning}
use Rattle.tf_state_data.specs.State.{StateView}
use Rattle.tf_value_data.specs.Tree.{Entries}
use Rattle.std.specs.List.{AllByRecursion}
use Rattle.tf_cli.specs.Applies.{IsPlanOf, MayStart}
use Rattle.tf_config_json.specs.Laws.{BlocksHaveNames}
use Rattle.tf_state.specs.Valid.{IsValid}
use Rattle.tf_walk_action.specs.Words.{action_of, AreServed}
use Rattle.tf_walk_report.specs.Savable.{IsNamed}

-- what is planned of what texts read as is the plan of the texts
pub plan_of_texts : (ms : List Meaning) (texts : Texts) (lineage : List ℕ) (config : ConfigView) (values : Entries) (prior : StateView) (planned : Result Plan Refused) → ReadAs texts lineage config values prior
    → IfOk planned (λ p. IsPlan ms config values prior (plan_of p)) → IfOk planned (λ p. IsPlanOf ms texts lineage (plan_of p))
plan_of_texts ms texts lineage config values prior (Ok p) stand is = record { config = config; values = values; prior = prior; stand = stand; planned = is }
plan_of_texts ms texts lineage config values prior (Err refused) stand is = tt

-- no state is beyond a limit if a plan can start from it
not_beyond : (prior : StateView) → IsPlannable prior → IsBeyond prior → ⊥
not_beyond prior can (inl many) = let few = can.0 in omega (arith, many, few)
not_beyond prior can (inr last) = let below = can.1 in omega (arith, last, below)

-- so what a plan from it refuses is refused of the configuration
pub refused-within : (ms : List Meaning) (config : ConfigView) (values : Entries) (prior : StateView) (refused : Refused) → IsPlannable prior
    → Tells (ArePlanRefusals ms config values prior) refused → Tells (AreRefused ms config values prior) refused
refused-within ms config values prior NoMemory can told = tt
refused-within ms config values prior (These refusals) can (inl beyond) = absurd (not_beyond prior can beyond.0)
refused-within ms config values prior (These refusals) can (inr told) = told

-- what is planned of what texts read as may be carried out
pub may_start : (ms : List Meaning) (texts : Texts) (lineage : List ℕ) (config : ConfigView) (values : Entries) (prior : StateView) (planned : Result Plan Refused)
    → BlocksHaveNames → ReadAs texts lineage config values prior → IsValid prior
    → IfOk planned (λ p. IsPlan ms config values prior (plan_of p)) → IfOk planned (λ p. AreServed ms (map action_of p.actions.items)) → IfOk planned (λ p. MayStart ms (plan_of p))
may_start ms texts lineage config values prior (Ok p) named stand valid is served = (
  served,
  subst IsValid (sym is.prior) valid,
  subst (λ (c : ConfigView). AllByRecursion IsNamed c.blocks) (sym is.config) (named stand.read.tree config stand.read.stands),
)
may_start ms texts lineage config values prior (Err refused) named stand valid is served = tt
