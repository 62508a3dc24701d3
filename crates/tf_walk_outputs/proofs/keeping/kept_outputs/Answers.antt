use Rattle.std.proofs.Common.{◌≡◌, sym, subst}
use Rattle.tf_walk_outputs.proofs.Kept.{kept_all, kept_next, kept_table}
use Rattle.tf_walk_outputs.specs.Outputs.{kept_entries}
use Rattle.tf_state_data.specs.State.{outputs_of}
use Rattle.tf_expr_syntax.specs.ExprTree.{entries_view}
use Rattle.tf_value_data.specs.Stored.{IsTable}
use Rattle.tf_walk_outputs.proofs.keeping.kept_outputs.Goals as goal

pub loop-name-preserved : goal.loop-name-preserved
loop-name-preserved c =
    kept_next (entries_view c.args.outputs.now.entries) c.args.prior.now.entries _ c.next.new.self (c.in-Some.name.now, c.in-Some.object.now) _ _ c.iter-name-items.ensures.ordered c.in-Some.ensures.steps
    c.in_ok-keep_declared.ensures c.loop-name.invariant

pub returns-clause-kept : goal.returns-clause-kept
returns-clause-kept c = kept_all (entries_view c.args.outputs.now.entries) c.args.prior.now.entries _ _ c.in-None.ensures.steps.0 c.loop-name.invariant

pub returns-clause-stored : goal.returns-clause-stored
returns-clause-stored c table =
    let es = entries_view c.args.outputs.now.entries in
    let kept : outputs_of c.loop-name.kept.entries ≡ kept_entries es (outputs_of c.args.prior.now.entries) =
    kept_all es c.args.prior.now.entries _ _ c.in-None.ensures.steps.0 c.loop-name.invariant in
    subst IsTable (sym kept) (kept_table es (outputs_of c.args.prior.now.entries) table)
