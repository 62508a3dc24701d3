-- What a plan's resources need, and what stands for a resource by its objects.
use Rattle.std.proofs.Common.{◌≡◌, ◌∙◌, ℕ, Bool, true, Option, Some, None, Contains, refl, sym, ap}
use Rattle.tf_config_address.specs.ObjectId.{InstanceKeyView}
use Rattle.tf_config_data.specs.Names.{Meant, a_local, a_block, directly_before}
use Rattle.tf_expand_keys.specs.InstanceKeys.{InstanceKeysView, instance_keys}
use Rattle.tf_expand_keys.specs.Stages.{applying}
use Rattle.tf_expand_keys.specs.Resolved.{stands_at}
use Rattle.tf_expr_eval.specs.Environment.{Environment}
use Rattle.tf_plan_planner.specs.Ordered.{IsOrdered}
use Rattle.tf_plan_data.specs.Plan.{PlanView, plan_names}
use Rattle.tf_plan_order.specs.Members.{is_among}
use Rattle.tf_value_data.specs.Tree.{Tree}
use Rattle.tf_laws.proofs.Still.{together_same}

-- where the objects of a resource's instances are the same, so is what the resource stands for
pub meant_same : (shapes : ℕ → InstanceKeysView) (f g : ℕ → InstanceKeyView → Tree) (n : ℕ) (m : Option Meant) (env : Environment) → ((key : InstanceKeyView) → is_among (instance_keys (shapes n)) key ≡ true → f n key ≡ g n key)
    → stands_at (applying shapes f) n m env ≡ stands_at (applying shapes g) n m env
meant_same shapes f g n None env h = refl
meant_same shapes f g n (Some (a_local e)) env h = refl
meant_same shapes f g n (Some (a_block block)) env h = together_same (λ key. Some (f n key)) (λ key. Some (g n key)) (shapes n) (λ key among. ap Some (h key among))

module _ (plan : PlanView) (ordered : IsOrdered (plan_names plan) plan.prior.resources plan.needs plan.late plan.actions plan.order) where
  pub needs_direct : (a b : ℕ) → Contains (directly_before (plan_names plan) a) b → plan.needs a b ≡ true
  needs_direct a b c = ap (λ (f : ℕ → ℕ → Bool). f a b) ordered.tied.needs ∙ ordered.tied.is_dependence.direct a b c

  pub needs_closed : (a b c : ℕ) → plan.needs a b ≡ true → Contains (directly_before (plan_names plan) b) c → plan.needs a c ≡ true
  needs_closed a b c need d =
      let same = ordered.tied.needs in
      ap (λ (f : ℕ → ℕ → Bool). f a c) same ∙ ordered.tied.is_dependence.closed a b c (sym (ap (λ (f : ℕ → ℕ → Bool). f a b) same) ∙ need) d
