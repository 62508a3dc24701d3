-- The values of names that are known while an action's request is built.
use Rattle.std.specs.Prelude.{ℕ, List}
use Rattle.tf_config_address.specs.ObjectId.{InstanceKeyView}
use Rattle.tf_expand_keys.specs.Views.{resolved_names_of}
use Rattle.tf_expand_keys.specs.declared.resolved.Resolved.{Resolved}
use Rattle.tf_plan_data.specs.Plan.{PlanView, plan_names}
use Rattle.tf_walk_names.specs.Resolving.{AreResolvedSoFar}
use Rattle.tf_value_data.specs.Tree.{Tree}

-- The list holds, by place, right values of names of a plan's configuration, with these objects for instances. A
-- place without a value says nothing.
abbrev pub ResolvedSoFar : PlanView → (ℕ → InstanceKeyView → Tree) → List Resolved → Type 0
ResolvedSoFar plan objects kept = AreResolvedSoFar plan.variables (plan_names plan) plan.shapes objects (resolved_names_of kept)
