-- The values of names in an apply, and of outputs.
use Rattle.std.specs.Prelude.{◌≡◌, ℕ, Bool, true, false, List, Option, Some, is_some, Result, Ok, Err}
use Rattle.tf_config_address.specs.ObjectId.{InstanceKeyView}
use Rattle.tf_config_data.specs.Names.{NameView, Meant, a_block}
use Rattle.tf_expr_operators.specs.Answer.{Answer, Answers}
use Rattle.tf_expr_syntax.specs.declared.fault.EvalFault.{EvalFault}
use Rattle.tf_expr_syntax.specs.ExprTree as expr
use Rattle.tf_value_data.specs.Sets.{with_lists}
use Rattle.tf_value_data.specs.Tree.{Tree, Entries}
use Rattle.tf_value_data.specs.declared.value.Value.{Value}
use Rattle.tf_expr_eval.specs.ExprMeaning.{meaning}
use Rattle.tf_expand_keys.specs.InstanceKeys.{InstanceKeysView}
use Rattle.tf_expand_keys.specs.Stages.{applying}
use Rattle.tf_expand_keys.specs.Resolved.{ResolvedView, AreResolvedNames, environment}

-- whether the meaning of a name is a resource
abbrev pub is_resource : Option Meant → Bool
is_resource (Some (a_block b)) = true
is_resource _ = false

-- Each value so far is the value of its name in the apply. Other indexes have no value yet.
abbrev pub AreResolvedSoFar : Entries → List NameView → (ℕ → InstanceKeysView) → (ℕ → InstanceKeyView → Tree) → (ℕ → ResolvedView) → Type 0
AreResolvedSoFar variables names shapes objects kept =
    (resolved_names : ℕ → ResolvedView) → AreResolvedNames (applying shapes objects) variables names resolved_names → (n : ℕ) → is_some (kept n) ≡ true → kept n ≡ resolved_names n

-- a value with lists in place of sets, or the fault
abbrev pub without_sets : Answer → Answer
without_sets (Ok t) = Ok (with_lists t)
without_sets (Err why) = Err why

-- The value of an output after an apply, or the fault of its expression: what the expression means if each name has its
-- value in the apply, with the list of its texts in place of each set.
abbrev pub IsOutput : Entries → List NameView → (ℕ → InstanceKeysView) → (ℕ → InstanceKeyView → Tree) → expr.Tree → Result Value EvalFault → Type 0
IsOutput variables names shapes objects e output =
    (resolved_names : ℕ → ResolvedView) → AreResolvedNames (applying shapes objects) variables names resolved_names
    → Answers (without_sets (meaning (environment variables names resolved_names) e)) output
