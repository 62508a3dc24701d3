use Rattle.std.proofs.Common.{◌∙◌, ap, false, map, slice_index_or, string_bytes, sym}
use Rattle.tf_plan_changes.specs.Views.{change_view}
use Rattle.tf_plan_diff.proofs.InOrder.{shown_in_order}
use Rattle.tf_plan_diff.proofs.diff.text_of.Goals as goal

pub returns : goal.returns
returns c =
    shown_in_order c.args.colours (λ n. slice_index_or c.args.late.now n false) c.args.actions.now (string_bytes c.new-text.result) (string_bytes c.show_changes.new.text) (string_bytes c.show_summary.new.text) (map change_view c.as_slice.result.now)
    (sym c.is_empty.ensures ∙ c.if-is_empty.false) (ap (map change_view) c.as_slice.ensures.value ∙ c.in_ok-changes.ensures) c.new-text.ensures.bytes c.in_ok-show_changes.ensures c.in_ok-show_summary.ensures
