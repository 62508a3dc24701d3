use Rattle.tf_expr_syntax.proofs.ExprViews.{viewed_more}
use Rattle.tf_expr_syntax.proofs.expr_copies.+copy.Goals as goal

pub copy_entries-loop-key-preserved : goal.copy_entries-loop-key-preserved
copy_entries-loop-key-preserved t c =
    viewed_more c.args.entries.now.entries _ c.next.new.self (c.in-Some.key.now, c.in-Some.expr.now) _ _ _ _ c.iter-key-items.ensures.ordered c.in-Some.ensures.steps c.in_ok-insert.ensures.entries c.in_ok-name.ensures.cases c.in_ok-clone.ensures.cases c.loop-key.invariant
