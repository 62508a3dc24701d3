-- The refusals of outputs.
use Rattle.std.specs.Prelude.{ℕ, if◌then◌else◌, List, [], ◌∷◌, ◌++◌, codes, Ok, Err}
use Rattle.tf_config_data.specs.Names.{NameView, places}
use Rattle.tf_graph.specs.Solutions.{seen_by}
use Rattle.tf_expr_operators.specs.Answer.{Answer}
use Rattle.tf_config_refusal.specs.declared.code.Code.TheVariants as code
use Rattle.tf_config_refusal.specs.Refusal.{RefusalView, fault, kind}
use Rattle.tf_expr_syntax.specs.ExprNames.{named_by}
use Rattle.tf_expr_syntax.specs.ExprTree as expr
use Rattle.tf_value_data.specs.Tree.{Entries}
use Rattle.tf_expr_eval.specs.ExprMeaning.{meaning}
use Rattle.tf_expand_keys.specs.Resolved.{ResolvedView, all_stand, environment}

-- an output whose value can't be evaluated is refused with 9
abbrev pub output_fault : List ℕ → Answer → List RefusalView
output_fault name (Ok t) = []
output_fault name (Err why) = fault code.Evaluate (codes "output." ++ name) (kind why) ∷ []

-- An output is evaluated only if nothing that it refers to was refused, nor anything that this needs.
abbrev pub output_refusal : Entries → List NameView → (ℕ → ResolvedView) → List ℕ → expr.Tree → List RefusalView
output_refusal variables names resolved_names name e =
    if all_stand (seen_by resolved_names (places names (named_by e))) then output_fault name (meaning (environment variables names resolved_names) e) else []

-- the refusals of outputs, in byte order of their names
abbrev pub output_refusals : Entries → List NameView → (ℕ → ResolvedView) → expr.Entries → List RefusalView
output_refusals variables names resolved_names expr.no_entries = []
output_refusals variables names resolved_names (expr.entry name e es) = output_refusal variables names resolved_names name e ++ output_refusals variables names resolved_names es
