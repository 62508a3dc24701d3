-- What stands so far for a plan, by the parts that a request reads.
use Rattle.std.proofs.Common.{◌≡◌, ℕ, List, sym, subst}
use Rattle.tf_config_address.specs.ObjectId.{InstanceKeyView}
use Rattle.tf_config_data.specs.Names.{NameView}
use Rattle.tf_expand_keys.specs.InstanceKeys.{InstanceKeysView}
use Rattle.tf_expand_keys.specs.Views.{resolved_names_of}
use Rattle.tf_expand_keys.specs.declared.resolved.Resolved.{Resolved}
use Rattle.tf_plan_data.specs.Plan.{PlanView, plan_names}
use Rattle.tf_walk_names.specs.Resolving.{AreResolvedSoFar}
use Rattle.tf_value_data.specs.Tree.{Tree}
use Rattle.tf_walk_action.specs.SoFar.{ResolvedSoFar}

module _ (plan : PlanView) (names : List NameView) (shapes : ℕ → InstanceKeysView) (objects : ℕ → InstanceKeyView → Tree) (kept : List Resolved) (named : names ≡ plan_names plan) (shaped : shapes ≡ plan.shapes) where
  pub by_parts : ResolvedSoFar plan objects kept → AreResolvedSoFar plan.variables names shapes objects (resolved_names_of kept)
  by_parts h =
      subst (λ (ns : List NameView). AreResolvedSoFar plan.variables ns shapes objects (resolved_names_of kept)) (sym named)
      (subst (λ (s : ℕ → InstanceKeysView). AreResolvedSoFar plan.variables (plan_names plan) s objects (resolved_names_of kept)) (sym shaped) h)

  pub by_plan : AreResolvedSoFar plan.variables names shapes objects (resolved_names_of kept) → ResolvedSoFar plan objects kept
  by_plan h =
      subst (λ (s : ℕ → InstanceKeysView). AreResolvedSoFar plan.variables (plan_names plan) s objects (resolved_names_of kept)) shaped
      (subst (λ (ns : List NameView). AreResolvedSoFar plan.variables ns shapes objects (resolved_names_of kept)) named h)
