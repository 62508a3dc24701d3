-- A report is put together of its parts.
use Rattle.std.proofs.Common.{◌≡◌, ◌∙◌, ◌<◌, ◌++◌, ℕ, suc, Bool, List, [], ◌∷◌, length, map, refl, ap, ap₂}
use Rattle.tf_plan_data.specs.Action.{ActionView}
use Rattle.tf_walk_report.specs.ActionReport.{told_in}
use Rattle.tf_walk_report.specs.Diagnostics.{action_diagnostics, diagnostics_at}
use Rattle.tf_walk_buffers.specs.Head.{AreHeads, Head}
use Rattle.tf_config_data.specs.Names.{NameView, directly_before, meant_at}
use Rattle.tf_graph.specs.Solutions.{seen_by}
use Rattle.tf_walk_action.specs.Outcome.{ActionResultView, op_of}
use Rattle.tf_walk_outputs.specs.Settled.{AreSettled, all_settled, settled_as}
use Rattle.tf_plan_data.specs.Plan.{PlanView}

-- what is told of actions is told by what was known of each
pub told_in-actions : (plan : PlanView) (actions : List ActionView) (heads : List Head) (done : List ActionResultView) → AreHeads plan actions heads → told_in heads done ≡ action_diagnostics actions done
told_in-actions plan [] [] done are = refl
told_in-actions plan [] (h ∷ heads) done are = absurd are
told_in-actions plan (a ∷ actions) [] done are = absurd are
told_in-actions plan (a ∷ actions) (h ∷ heads) [] are = refl
told_in-actions plan (a ∷ actions) (h ∷ heads) (d ∷ done) are =
    ap₂ (λ xs ys. xs ++ ys) (ap₂ (λ p o. diagnostics_at p o d) are.0.place are.0.op) (told_in-actions plan actions heads done are.1)

-- what providers are asked to do is what the steps say
pub ops-actions : (plan : PlanView) (actions : List ActionView) (heads : List Head) → AreHeads plan actions heads → map (λ h. h.op) heads ≡ map (λ a. op_of a.step) actions
ops-actions plan [] [] are = refl
ops-actions plan [] (h ∷ heads) are = absurd are
ops-actions plan (a ∷ actions) [] are = absurd are
ops-actions plan (a ∷ actions) (h ∷ heads) are = ap₂ (λ x xs. x ∷ xs) are.0.op (ops-actions plan actions heads are.1)

-- there are as many heads as actions
pub heads-sized : (plan : PlanView) (actions : List ActionView) (heads : List Head) → AreHeads plan actions heads → length heads ≡ length actions
heads-sized plan [] [] are = refl
heads-sized plan [] (h ∷ heads) are = absurd are
heads-sized plan (a ∷ actions) [] are = absurd are
heads-sized plan (a ∷ actions) (h ∷ heads) are = ap suc (heads-sized plan actions heads are.1)

-- what is settled depends on which resources are good
pub settled-same : (names : List NameView) (good others settled : ℕ → Bool) → ((n : ℕ) → n < length names → good n ≡ others n) → AreSettled names good settled → AreSettled names others settled
settled-same names good others settled same are = λ n h. are n h ∙ ap (λ g. settled_as (meant_at names n) g (all_settled (seen_by settled (directly_before names n)))) (same n h)
