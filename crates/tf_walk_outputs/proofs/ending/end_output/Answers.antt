use Rattle.std.proofs.Common.{subst}
use Rattle.tf_expand_keys.specs.Module.{IsModule}
use Rattle.tf_expand_keys.specs.Views.{shapes_of}
use Rattle.tf_graph.specs.NodeSet.{has}
use Rattle.tf_config_names.specs.Table.{names_in}
use Rattle.tf_walk_outputs.proofs.Done.{output_no_set, done_faulted, done_valued}
use Rattle.tf_walk_outputs.specs.Keeping.{done_of}
use Rattle.tf_expr_syntax.specs.ExprTree.{tree_of}
use Rattle.tf_value_data.specs.Tree.{entries_view}
use Rattle.tf_walk_outputs.proofs.ending.end_output.Goals as goal

pub within_limits-requires : goal.within_limits-requires
within_limits-requires g c =
    let fits = subst IsModule c.declared.view_is c.declared.invariant in
    let output = rw c.in-Ok-Ok.field-0-is at c.in-Ok-Ok.ensures.output in
    output_no_set (entries_view c.args.declared.now.variables.now.entries) (names_in c.args.declared.now.names.now) (shapes_of c.args.shapes.now) (g.R.Results.objects c.args.results.now)
    (fits.dependence.ranked fits.acyclic) (tree_of c.args.expr.now) c.in-Ok-Ok.value output

pub returns-in-Ok-Err-clause-done : goal.returns-in-Ok-Err-clause-done
returns-in-Ok-Err-clause-done g c =
    let fits = subst IsModule c.declared.view_is c.declared.invariant in
    let output = rw c.in-Ok-Err.field-0-is at c.in-Ok-Err.ensures.output in
    done_faulted (entries_view c.args.declared.now.variables.now.entries) (names_in c.args.declared.now.names.now) (shapes_of c.args.shapes.now) (g.R.Results.objects c.args.results.now)
    (has c.args.settled.now) (tree_of c.args.expr.now) (fits.dependence.ranked fits.acyclic) c.args.places.now c.all_settled.result c.in-Ok-Err.fault c.requires.places c.all_settled.ensures c.if-not-all_settled.false output

pub returns-in-Ok-Ok-clause-done : goal.returns-in-Ok-Ok-clause-done
returns-in-Ok-Ok-clause-done g c =
    let fits = subst IsModule c.declared.view_is c.declared.invariant in
    let output = rw c.in-Ok-Ok.field-0-is at c.in-Ok-Ok.ensures.output in
    done_valued (entries_view c.args.declared.now.variables.now.entries) (names_in c.args.declared.now.names.now) (shapes_of c.args.shapes.now) (g.R.Results.objects c.args.results.now)
    (has c.args.settled.now) (tree_of c.args.expr.now) (fits.dependence.ranked fits.acyclic) c.args.places.now c.all_settled.result c.in-Ok-Ok.value (done_of c.within_limits.result) c.requires.places c.all_settled.ensures c.if-not-all_settled.false output
    c.within_limits.ensures.done
