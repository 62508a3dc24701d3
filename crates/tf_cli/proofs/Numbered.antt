-- What is refused if a plan may not have a number of workers.
use Rattle.std.proofs.Common.{◌≡◌, ◌∷◌, [], ◌∙◌, ℕ, Bool, true, false, List, Result, Ok, Err, IfErr, refl, ap, inl, inr}
use Rattle.std.specs.Prelude.{MatchBool}
use Rattle.tf_cli_inputs.specs.Texts.{Texts}
use Rattle.tf_plan_planner.specs.Refused.{Tells}
use Rattle.tf_plan_planner.specs.declared.refused.Refused.{Refused}
use Rattle.tf_plan_planner.specs.declared.refused.Refused.TheVariants.{NoMemory, These}
use Rattle.tf_plan_data.specs.Plan.{PlanView}
use Rattle.tf_provider_protocol.specs.Meaning.{Meaning}
use Rattle.tf_config_refusal.specs.Refusal.{RefusalView, no_memory, workers}
use Rattle.tf_walk.specs.Workers.{are_workers}
use Rattle.tf_cli.specs.Applies.{IsPlanOf}
use Rattle.tf_cli.specs.Refusals.{AreApplyRefusals, AreRefusals, IsNumberRefused, RefusesBy}

module _ (ms : List Meaning) (texts : Texts) (lineage : List ℕ) (count : ℕ) where
  -- a plan whose number of workers is refused
  pub refused_then : {T : Type 0} (plan : PlanView) → IsPlanOf ms texts lineage plan → (answer : Result T Refused) → IfErr answer (Tells (IsNumberRefused count)) → IfErr answer (Tells (AreApplyRefusals ms texts lineage count))
  refused_then plan planned (Ok t) tells = tt
  refused_then plan planned (Err NoMemory) tells = tt
  refused_then plan planned (Err (These refusals)) tells = inr (record { plan = plan; planned = planned; wrong = tells })

  -- what is refused of texts is refused of an apply of them
  pub refused_as_texts : {T : Type 0} (answer : Result T Refused) → IfErr answer (Tells (AreRefusals ms texts)) → IfErr answer (Tells (AreApplyRefusals ms texts lineage count))
  refused_as_texts (Ok t) tells = tt
  refused_as_texts (Err NoMemory) tells = tt
  refused_as_texts (Err (These refusals)) tells = inl tells

-- a walk on one thread is refused only if memory runs out
pub only_memory : (t : RefusalView) → t ≡ no_memory → (refused : Refused) → RefusesBy t refused → refused ≡ NoMemory
only_memory t why NoMemory by = refl
only_memory t why (These refusals) by = absurd (by.1 why)

module _ (count : ℕ) where
  by_number : (b : Bool) → are_workers count ≡ b → (t : RefusalView) → MatchBool b (t ≡ no_memory) (t ≡ workers)
      → (refused : Refused) → RefusesBy t refused → Tells (IsNumberRefused count) refused
  by_number b is t why NoMemory by = tt
  by_number true is t why (These refusals) by = absurd (by.1 why)
  by_number false is t why (These refusals) by = (is, by.0 ∙ ap (λ (x : RefusalView). x ∷ []) why)

  -- a walk refuses a plan if memory runs out or the number of workers is wrong
  pub refused-walk : (t : RefusalView) → MatchBool (are_workers count) (t ≡ no_memory) (t ≡ workers) → (refused : Refused) → RefusesBy t refused → Tells (IsNumberRefused count) refused
  refused-walk t why refused by = by_number (are_workers count) refl t why refused by
