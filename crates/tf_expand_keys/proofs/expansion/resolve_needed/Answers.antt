use Rattle.std.proofs.Common.{subst}
use Rattle.tf_config_names.specs.Table.{names_in}
use Rattle.tf_value_data.specs.Tree.{entries_view}
use Rattle.tf_expr_eval.proofs.Locality.{expressions_local}
use Rattle.tf_expand_keys.specs.Module.{IsModule}
use Rattle.tf_expand_keys.specs.Views.{resolved_names_of}
use Rattle.tf_expand_keys.proofs.Locals.{expansion_local}
use Rattle.tf_expand_keys.proofs.Needing.{needed_closed, needed_kept}
use Rattle.tf_expand_keys.proofs.expansion.resolve_needed.Goals as goal

pub resolved_names-requires-clause-local : goal.resolved_names-requires-clause-local
resolved_names-requires-clause-local c = expansion_local expressions_local

pub resolved_names-requires-clause-closed : goal.resolved_names-requires-clause-closed
resolved_names-requires-clause-closed c =
    let fits = subst IsModule c.declared.view_is c.declared.invariant in
    rw c.as_slice.ensures.value (needed_closed (names_in c.args.declared.now.names.now) c.args.declared.now.dependence.now _ fits.dependence c.in_ok-wanted.ensures)

pub returns : goal.returns
returns c =
    let fits = subst IsModule c.declared.view_is c.declared.invariant in
    needed_kept (entries_view c.args.declared.now.variables.now.entries) (names_in c.args.declared.now.names.now) c.args.declared.now.dependence.now c.in_ok-wanted.wanted.items
    (resolved_names_of c.in_ok-kept.kept.items) fits.dependence fits.acyclic c.in_ok-wanted.ensures
    (rw c.as_slice.ensures.value at c.in_ok-kept.ensures.resolved_names) (rw c.as_slice.ensures.value at c.in_ok-kept.ensures.only)
