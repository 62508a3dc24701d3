-- The planned changes of outputs.
use Rattle.std.specs.Prelude.{◌≡◌, ℕ, ◌&&◌, if◌then◌else◌, List, [], ◌∷◌, map, Option, Some, None, Ok, Err}
use Rattle.std.specs.BTreeSet.{insert_key}
use Rattle.std.specs.Cmp.Lexicographic.{slice_cmp}
use Rattle.std.specs.List.{AllByRecursion}
use Rattle.std.specs.Ordering.{nat_cmp}
use Rattle.tf_expand_keys.specs.Resolved.{ResolvedView, AreResolvedNames, environment}
use Rattle.tf_expand_keys.specs.Stages.{applying}
use Rattle.tf_expr_eval.specs.ExprMeaning.{meaning}
use Rattle.tf_expr_operators.specs.Answer.{Answer}
use Rattle.tf_expr_syntax.specs.ExprTree as expr
use Rattle.tf_plan_data.specs.Plan.{PlanView, plan_names}
use Rattle.tf_plan_outputs.specs.Objects.{objects_planned}
use Rattle.tf_value_data.specs.Known.{known}
use Rattle.tf_value_data.specs.Measure.{is_within}
use Rattle.tf_value_data.specs.Tree.{Tree, null, unknown, get, keys_of, same}
use Rattle.tf_walk_names.specs.Resolving.{without_sets}

-- ---- the value after

-- The planned value of an output, by what its expression means. After a fault it is unknown, and so is a value beyond the
-- limits: the apply reports such an output.
abbrev pub planned_with : Answer → Tree
planned_with (Ok t) = if is_within t then t else unknown
planned_with (Err why) = unknown

-- the resolved names of a plan: variables have their values, and instances the objects that the plan gives them
abbrev pub AreNamesPlanned : PlanView → (ℕ → ResolvedView) → Type 0
AreNamesPlanned plan resolved_names = AreResolvedNames (applying plan.shapes (objects_planned plan)) plan.variables (plan_names plan) resolved_names

-- The value that a plan gives to an output's expression. Names have values in the plan. For all values that they may have
-- there, it is what the expression means, with lists in place of sets.
pub record IsPlannedValue (plan : PlanView) (e : expr.Tree) (t : Tree) : Type 0 where
  pub resolved_names : ℕ → ResolvedView
  pub planned : AreNamesPlanned plan resolved_names
  pub means : (others : ℕ → ResolvedView) → AreNamesPlanned plan others → t ≡ planned_with (without_sets (meaning (environment plan.variables (plan_names plan) others) e))

-- ---- a change

-- A change of an output: its value in the prior state, if it has the output, and the value that the plan gives it, or
-- nothing if the output isn't declared.
pub record OutputChangeView : Type 0 where
  pub name : List ℕ
  pub before : Option Tree
  pub after : Option Tree

-- the value after of an output with this expression, or of one that isn't declared
abbrev pub IsAfter : PlanView → Option expr.Tree → Option Tree → Type 0
IsAfter plan None after = after ≡ None
IsAfter plan (Some e) None = ⊥
IsAfter plan (Some e) (Some t) = IsPlannedValue plan e t

-- the change of the output with its name
pub record IsOutputChange (plan : PlanView) (c : OutputChangeView) : Type 0 where
  pub before : c.before ≡ get c.name plan.prior.outputs
  pub after : IsAfter plan (expr.get c.name plan.config.outputs) c.after

-- ---- what is done

-- in Terraform's words: nothing, `create`, `update` or `delete`
pub data OutputActionView : Type 0 where
  no_op : OutputActionView
  create_it : OutputActionView
  update_it : OutputActionView
  delete_it : OutputActionView

-- Nothing is done to an output without a value, before or after. An apply saves no null value.
abbrev pub created_unless_null : Tree → OutputActionView
created_unless_null null = no_op
created_unless_null _ = create_it

-- Nothing is done if the value after is known and the same.
abbrev pub updated_unless_same : Tree → Tree → OutputActionView
updated_unless_same b a = if known a && same b a then no_op else update_it

-- What is done to an output, by its values before and after. If a declared output gets the value null it is updated, as
-- Terraform has it.
abbrev pub action_between : Option Tree → Option Tree → OutputActionView
action_between None None = no_op
action_between None (Some a) = created_unless_null a
action_between (Some b) None = delete_it
action_between (Some b) (Some a) = updated_unless_same b a

abbrev pub action_of : OutputChangeView → OutputActionView
action_of c = action_between c.before c.after

-- ---- all changes

-- names with others put in, each once and in byte order
abbrev pub names_with : List (List ℕ) → List (List ℕ) → List (List ℕ)
names_with names [] = names
names_with names (k ∷ ks) = names_with (insert_key (slice_cmp nat_cmp) names k) ks

-- the names of declared outputs
abbrev pub declared_names : expr.Entries → List (List ℕ)
declared_names expr.no_entries = []
declared_names (expr.entry k e es) = k ∷ declared_names es

-- the outputs that the configuration declares or the prior state has, each once, in byte order of their names
abbrev pub output_names : PlanView → List (List ℕ)
output_names plan = names_with (names_with [] (declared_names plan.config.outputs)) (keys_of plan.prior.outputs)

-- the changes of a plan's outputs: one for each name
pub record AreOutputChanges (plan : PlanView) (cs : List OutputChangeView) : Type 0 where
  pub names : map (λ c. c.name) cs ≡ output_names plan
  pub each : AllByRecursion (IsOutputChange plan) cs
