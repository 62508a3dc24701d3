use Rattle.std.proofs.Common.{◌≡◌, ◌<◌, ℕ, List, IfOk, length, sym, ap, subst, ◌∙◌}
use Rattle.std.specs.List.{AllByRecursion}
use Rattle.tf_config_data.specs.Names.{places}
use Rattle.tf_expand_keys.proofs.Places.{all_places}
use Rattle.tf_expand_keys.specs.Resolved.{environment}
use Rattle.tf_expand_keys.specs.Views.{shapes_of, resolved_names_of}
use Rattle.tf_expand_keys.specs.declared.table.ModuleParts.{ModuleParts}
use Rattle.tf_config_names.specs.Table.{names_in}
use Rattle.tf_expr_eval.specs.ExprMeaning.{meaning}
use Rattle.tf_expr_operators.specs.Answer.{Answers}
use Rattle.tf_expr_syntax.specs.ExprNames.{named_by}
use Rattle.tf_expr_syntax.specs.ExprTree.{tree_of}
use Rattle.tf_value_data.specs.Tree.{entries_view}
use Rattle.tf_walk_names.proofs.OutputValues.{answered, standing_same}
use Rattle.tf_walk_names.proofs.Shared.{answered_each}
use Rattle.tf_walk_names.specs.Resolving.{without_sets}
use Rattle.tf_walk_names.proofs.outputs.output_value.Goals as goal

pub add_resolved_names-requires-clause-within : goal.add_resolved_names-requires-clause-within
add_resolved_names-requires-clause-within g c =
    let names = names_in c.args.declared.now.names.now in
    let named : c.as_slice.result.now ≡ places names (named_by (tree_of c.args.expr.now)) = c.as_slice.ensures.value ∙ c.in_ok-named.ensures ∙ ap (λ (m : ModuleParts). places (names_in m.names.now) (named_by (tree_of c.args.expr.now))) c.declared.view_is in
    subst (λ (ns : List ℕ). AllByRecursion (λ n. n < length names) ns) (sym named) (all_places (λ n. n < length names) names (named_by (tree_of c.args.expr.now)) (λ n h. h))

pub returns-clause-output : goal.returns-clause-output
returns-clause-output g c =
    let variables = entries_view c.args.declared.now.variables.now.entries in
    let names = names_in c.args.declared.now.names.now in
    let shapes = shapes_of c.args.shapes.now in
    let objects = g.R.Results.objects c.args.results.now in
    let named : c.as_slice.result.now ≡ places names (named_by (tree_of c.args.expr.now)) = c.as_slice.ensures.value ∙ c.in_ok-named.ensures ∙ ap (λ (m : ModuleParts). places (names_in m.names.now) (named_by (tree_of c.args.expr.now))) c.declared.view_is in
    answered variables names shapes objects (resolved_names_of c.as_slice-2.result.now) (tree_of c.args.expr.now)
    (λ resolved_names solves. standing_same resolved_names c.as_slice.result.now (places names (named_by (tree_of c.args.expr.now))) c.add_resolved_names.new.kept.items c.as_slice-2.result.now named c.as_slice-2.ensures.value
    (answered_each variables names shapes objects (resolved_names_of c.add_resolved_names.new.kept.items) c.as_slice.result.now c.in_ok-add_resolved_names.ensures.answered c.in_ok-add_resolved_names.ensures.there resolved_names solves))
    c.listed_value.result
    (subst
    (λ (m : ModuleParts). IfOk c.listed_value.result (λ answer. Answers (without_sets
    (meaning (environment (entries_view m.variables.now.entries) (names_in m.names.now) (resolved_names_of c.as_slice-2.result.now)) (tree_of c.args.expr.now))) answer))
    c.declared.view_is c.listed_value.ensures)
