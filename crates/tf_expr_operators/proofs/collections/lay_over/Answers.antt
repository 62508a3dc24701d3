use Rattle.std.proofs.Common.{sym, ap, ◌∙◌}
use Rattle.tf_value_data.specs.Tree.{entries_view}
use Rattle.tf_value_data.proofs.Views.{entries_view-insert_entry}
use Rattle.tf_expr_operators.specs.Functions.{laid_over}
use Rattle.tf_expr_operators.proofs.collections.lay_over.Goals as goal

pub loop-key-preserved : goal.loop-key-preserved
loop-key-preserved c =
    let base = c.loop-key.base.entries in
    let put_in = ap entries_view c.in_ok-insert.ensures.entries ∙ entries_view-insert_entry base c.in-Some.key c.in-Some.value in
    ap (λ b. laid_over b (entries_view c.next.new.self)) put_in ∙ sym (ap (λ es. laid_over (entries_view base) (entries_view es)) c.in-Some.ensures.steps) ∙ c.loop-key.invariant
