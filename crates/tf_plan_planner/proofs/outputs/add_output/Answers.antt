use Rattle.std.proofs.Common.{rules, ◌≡◌, ◌++◌, ◌∷◌, [], true, Err, map, ap, ◌∙◌, subst, codes, string_bytes}
use Rattle.std.proofs.lemmas.List.{map-append}
use Rattle.tf_config_data.specs.Names.{places}
use Rattle.tf_config_names.specs.Table.{names_in}
use Rattle.tf_config_refusal.specs.declared.code.Code.TheVariants as code
use Rattle.tf_config_refusal.specs.Refusal.{refusal_of, fault, kind}
use Rattle.tf_expand_keys.specs.Resolved.{all_stand, environment}
use Rattle.tf_expand_keys.specs.Views.{resolved_names_of}
use Rattle.tf_expand_keys.specs.Words.{seen_by}
use Rattle.tf_expand_keys.specs.declared.table.ModuleParts.{ModuleParts}
use Rattle.tf_expr_eval.specs.ExprMeaning.{meaning}
use Rattle.tf_expr_syntax.specs.ExprNames.{named_by}
use Rattle.tf_expr_syntax.specs.ExprTree.{tree_of}
use Rattle.tf_plan_planner.specs.Outputs.{output_refusal}
use Rattle.tf_value_data.specs.Tree.{entries_view}
use Rattle.tf_plan_planner.proofs.outputs.add_output.Goals as goal

pub returns : goal.returns
returns c =
    let parts = c.declared.inside.parts in
    let stand : all_stand (seen_by (resolved_names_of c.args.kept.now) (places (names_in parts.names.now) (named_by (tree_of c.args.expr.now)))) ≡ true = search rules in
    let meant : meaning (environment (entries_view parts.variables.now.entries) (names_in parts.names.now) (resolved_names_of c.args.kept.now)) (tree_of c.args.expr.now) ≡ Err c.in-Err.why = search rules in
    let text : string_bytes c.in_ok-place-in-Err.place ≡ codes "output." ++ c.args.name.now = search rules in
    let refused : refusal_of c.evaluation.result ≡ fault code.Evaluate (codes "output." ++ c.args.name.now) (kind c.in-Err.why) = c.evaluation.ensures ∙ ap (λ place. fault code.Evaluate place (kind c.in-Err.why)) text in
    let old = c.args.refusals.now.items in
    let told = ap (map refusal_of) c.in_ok-push-in-Err.ensures.items ∙ map-append refusal_of old (c.evaluation.result ∷ []) ∙ ap (λ t. map refusal_of old ++ t ∷ []) refused in
    subst
    (λ (m : ModuleParts). map refusal_of c.push.new.self.items ≡ map refusal_of c.args.refusals.now.items
    ++ output_refusal (entries_view m.variables.now.entries) (names_in m.names.now) (resolved_names_of c.args.kept.now) c.args.name.now (tree_of c.args.expr.now)) c.declared.view_is (rw (stand, meant) told)
