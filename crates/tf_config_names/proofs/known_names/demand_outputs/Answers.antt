use Rattle.std.proofs.Common.{◌∷◌, [], codes, string_bytes}
use Rattle.std.proofs.lemmas.Result.{err_from_is_err_and}
use Rattle.tf_config_names.proofs.NameWalks.{left_more, left_refused}
use Rattle.tf_config_names.specs.KnownNames.{declared_of, output_checks, name_checks}
use Rattle.tf_config_names.specs.declared.known_names.Context.TheVariants.{Plain}
use Rattle.tf_expr_syntax.specs.ExprTree.{entries_view, tree_of}
use Rattle.tf_config_names.proofs.known_names.demand_outputs.Goals as goal

pub loop-name-preserved : goal.loop-name-preserved
loop-name-preserved c =
    let left = rw c.in-Some.ensures.steps at c.loop-name.invariant in
    left_more (declared_of c.args.known) (output_checks (entries_view c.args.outputs.now.entries)) (name_checks Plain (codes "value" ∷ string_bytes c.in-Some.name.now ∷ codes "output" ∷ []) (tree_of c.in-Some.expr.now)) (output_checks (entries_view c.next.new.self)) left
    (rw c.as_str.ensures.value at c.in_ok-demand_output.ensures)

pub returns-in_err-demand_output : goal.returns-in_err-demand_output
returns-in_err-demand_output c =
    let p = err_from_is_err_and c.from_residual.result c.from_residual.ensures.1 in
    let left = rw c.in-Some.ensures.steps at c.loop-name.invariant in
    let first = rw c.as_str.ensures.value at c.in_err-demand_output.ensures in
    rw (p.1, p.2)
    (left_refused (declared_of c.args.known) (output_checks (entries_view c.args.outputs.now.entries)) (name_checks Plain (codes "value" ∷ string_bytes c.in-Some.name.now ∷ codes "output" ∷ []) (tree_of c.in-Some.expr.now)) (output_checks (entries_view c.next.new.self)) _ left first)
