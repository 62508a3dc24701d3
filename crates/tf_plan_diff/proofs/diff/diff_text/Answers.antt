use Rattle.std.proofs.Common.{◌≡◌, false, map, slice_index_or, string_bytes, subst}
use Rattle.std.specs.Prelude.{IfOk}
use Rattle.tf_plan_data.specs.Action.{action_of}
use Rattle.tf_plan_diff.specs.Diff.{lines_of}
use Rattle.tf_plan_diff.proofs.diff.diff_text.Goals as goal

pub returns : goal.returns
returns c =
    let shown = subst (λ actions. IfOk c.text_of.result (λ text. string_bytes text ≡ lines_of c.args.colours (λ n. slice_index_or c.as_slice-2.result.now n false) (map action_of actions))) c.as_slice.ensures.value c.text_of.ensures in
    subst (λ late. IfOk c.text_of.result (λ text. string_bytes text ≡ lines_of c.args.colours (λ n. slice_index_or late n false) (map action_of c.args.plan.now.actions.items))) c.as_slice-2.ensures.value shown
