-- The value of an output, where what an expression names stands for what it does among all names.
use Rattle.std.proofs.Common.{◌≡◌, ℕ, List, Result, Ok, Err, IfOk, sym}
use Rattle.std.specs.declared.alloc.AllocError.{AllocError}
use Rattle.std.specs.List.{AllByRecursion}
use Rattle.tf_config_address.specs.ObjectId.{InstanceKeyView}
use Rattle.tf_config_data.specs.Names.{NameView, places}
use Rattle.tf_expr_operators.specs.Answer.{Answers}
use Rattle.tf_expr_syntax.specs.declared.fault.EvalFault.{EvalFault}
use Rattle.tf_expr_syntax.specs.ExprNames.{named_by}
use Rattle.tf_expr_syntax.specs.ExprTree as expr
use Rattle.tf_value_data.specs.Tree.{Tree, Entries}
use Rattle.tf_value_data.specs.declared.value.Value.{Value}
use Rattle.tf_expr_eval.proofs.Locality.{expressions_local}
use Rattle.tf_expr_eval.specs.ExprMeaning.{meaning}
use Rattle.tf_expand_keys.proofs.Seen.{agree_on}
use Rattle.tf_expand_keys.specs.InstanceKeys.{InstanceKeysView}
use Rattle.tf_expand_keys.specs.Stages.{applying}
use Rattle.tf_expand_keys.specs.Resolved.{ResolvedView, AreResolvedNames, environment}
use Rattle.tf_expand_keys.specs.Views.{resolved_names_of}
use Rattle.tf_expand_keys.specs.declared.resolved.Resolved.{Resolved}
use Rattle.tf_walk_names.specs.Resolving.{IsOutput, without_sets}

-- what stands at some places, where these and what is kept have another name
pub standing_same : (resolved_names : ℕ → ResolvedView) (others named : List ℕ) (kept slice : List Resolved) → others ≡ named → slice ≡ kept → AllByRecursion (λ n. resolved_names_of kept n ≡ resolved_names n) others
    → AllByRecursion (λ n. resolved_names_of slice n ≡ resolved_names n) named
standing_same resolved_names others named kept slice e f h = rw (sym e, f) h

-- what an expression means where so much stands is what the output is
pub answered : (variables : Entries) (names : List NameView) (shapes : ℕ → InstanceKeysView) (objects : ℕ → InstanceKeyView → Tree) (kept : ℕ → ResolvedView) (e : expr.Tree)
    → ((resolved_names : ℕ → ResolvedView) → AreResolvedNames (applying shapes objects) variables names resolved_names → AllByRecursion (λ n. kept n ≡ resolved_names n) (places names (named_by e)))
    → (result : Result (Result Value EvalFault) AllocError)
    → IfOk result (λ output. Answers (without_sets (meaning (environment variables names kept) e)) output)
    → IfOk result (λ output. IsOutput variables names shapes objects e output)
answered variables names shapes objects kept e same (Ok output) given = λ resolved_names solves.
    let agree = agree_on variables names kept resolved_names (named_by e) (same resolved_names solves) in
    rw (sym (expressions_local (environment variables names kept) (environment variables names resolved_names) e agree)) given
answered variables names shapes objects kept e same (Err why) given = given
