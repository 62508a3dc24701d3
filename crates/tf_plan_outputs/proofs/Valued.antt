-- The value that a plan gives to an output.
use Rattle.std.proofs.Common.{◌≡◌, ℕ, List, length, Result, Ok, Err, sym, ap, subst, ◌∙◌}
use Rattle.tf_config_address.specs.ObjectId.{InstanceKeyView}
use Rattle.tf_config_data.specs.Names.{NameView, directly_before}
use Rattle.tf_expand_keys.specs.InstanceKeys.{InstanceKeysView}
use Rattle.tf_expand_keys.specs.Resolved.{ResolvedView, environment, rule}
use Rattle.tf_expand_keys.specs.Stages.{applying}
use Rattle.tf_expr_eval.specs.ExprMeaning.{meaning}
use Rattle.tf_expr_operators.specs.Answer.{Answer}
use Rattle.tf_expr_syntax.specs.declared.fault.EvalFault.{EvalFault}
use Rattle.tf_expr_syntax.specs.ExprTree as expr
use Rattle.tf_graph.proofs.Solving.{solution-exists}
use Rattle.tf_graph.specs.Solutions.{Ranked}
use Rattle.tf_plan_data.specs.Action.{ActionView}
use Rattle.tf_plan_data.specs.Plan.{PlanView, plan_names}
use Rattle.tf_plan_outputs.specs.Changes.{AreNamesPlanned, IsPlannedValue, planned_with}
use Rattle.tf_plan_outputs.specs.Objects.{objects_planned, planned_object}
use Rattle.tf_value_data.specs.Tree.{Tree, unknown, tree_of}
use Rattle.tf_value_data.specs.declared.value.Value.{Value}
use Rattle.tf_walk_names.specs.Resolving.{AreResolvedSoFar, IsOutput, without_sets}

-- the objects of a plan, by its names and its actions
pub objects_same : (plan : PlanView) (names : List NameView) (actions : List ActionView) → names ≡ plan_names plan → actions ≡ plan.actions → planned_object names plan.prior actions ≡ objects_planned plan
objects_same plan names actions named same = ap (λ (ns : List NameView). planned_object ns plan.prior actions) named ∙ ap (planned_object (plan_names plan) plan.prior) same

module _ (plan : PlanView) (names : List NameView) (shapes : ℕ → InstanceKeysView) (objects : ℕ → InstanceKeyView → Tree) (named : names ≡ plan_names plan) (shaped : shapes ≡ plan.shapes) (given : objects ≡ objects_planned plan) where
  -- the values of names so far, by the parts that the evaluation sees
  pub by_parts : (kept : ℕ → ResolvedView) → AreResolvedSoFar plan.variables (plan_names plan) plan.shapes (objects_planned plan) kept → AreResolvedSoFar plan.variables names shapes objects kept
  by_parts kept h =
      subst (λ (ns : List NameView). AreResolvedSoFar plan.variables ns shapes objects kept) (sym named)
      (subst (λ (s : ℕ → InstanceKeysView). AreResolvedSoFar plan.variables (plan_names plan) s objects kept) (sym shaped)
      (subst (λ (o : ℕ → InstanceKeyView → Tree). AreResolvedSoFar plan.variables (plan_names plan) plan.shapes o kept) (sym given) h))

  -- and by the plan
  pub by_plan : (kept : ℕ → ResolvedView) → AreResolvedSoFar plan.variables names shapes objects kept → AreResolvedSoFar plan.variables (plan_names plan) plan.shapes (objects_planned plan) kept
  by_plan kept h =
      subst (λ (o : ℕ → InstanceKeyView → Tree). AreResolvedSoFar plan.variables (plan_names plan) plan.shapes o kept) given
      (subst (λ (s : ℕ → InstanceKeysView). AreResolvedSoFar plan.variables (plan_names plan) s objects kept) shaped
      (subst (λ (ns : List NameView). AreResolvedSoFar plan.variables ns shapes objects kept) named h))

  -- the output of a plan, by the parts that the evaluation sees
  output_of_plan : (e : expr.Tree) (output : Result Value EvalFault) → IsOutput plan.variables names shapes objects e output → IsOutput plan.variables (plan_names plan) plan.shapes (objects_planned plan) e output
  output_of_plan e output h =
      subst (λ (o : ℕ → InstanceKeyView → Tree). IsOutput plan.variables (plan_names plan) plan.shapes o e output) given
      (subst (λ (s : ℕ → InstanceKeysView). IsOutput plan.variables (plan_names plan) s objects e output) shaped
      (subst (λ (ns : List NameView). IsOutput plan.variables ns shapes objects e output) named h))

  module _ (ranked : Ranked (directly_before (plan_names plan))) (e : expr.Tree) where
    -- where no name needs itself, names have values
    planned_by : (a : Answer) (t : Tree) → t ≡ planned_with a
        → ((others : ℕ → ResolvedView) → AreNamesPlanned plan others → without_sets (meaning (environment plan.variables (plan_names plan) others) e) ≡ a) → IsPlannedValue plan e t
    planned_by a t is means =
        let there = solution-exists (length (plan_names plan)) (directly_before (plan_names plan)) (rule (applying plan.shapes (objects_planned plan)) plan.variables (plan_names plan)) ranked in
        record { resolved_names = there.0; planned = there.1; means = λ others stand. is ∙ ap planned_with (sym (means others stand)) }

    pub planned_value : (v : Value) (t : Tree) → t ≡ planned_with (Ok (tree_of v)) → IsOutput plan.variables names shapes objects e (Ok v) → IsPlannedValue plan e t
    planned_value v t is output = planned_by (Ok (tree_of v)) t is (output_of_plan e (Ok v) output)

    pub planned_fault : (why : EvalFault) (t : Tree) → t ≡ unknown → IsOutput plan.variables names shapes objects e (Err why) → IsPlannedValue plan e t
    planned_fault why t is output = planned_by (Err why) t is (output_of_plan e (Err why) output)
