use Rattle.std.proofs.Common.{◌≡◌, ◌∙◌, ap, not, string_bytes}
use Rattle.std.specs.Int.{from_bool}
use Rattle.std.specs.Prelude.{option_map}
use Rattle.tf_plan_diff.proofs.FewHidden.{hidden_step}
use Rattle.tf_plan_diff.specs.Diff.{is_hidden, old_at}
use Rattle.tf_value_data.specs.Tree.{tree_of}
use Rattle.tf_plan_diff.proofs.attributes.hidden_count.Goals as goal

pub overflow_sub-count : goal.overflow_sub-count
overflow_sub-count c =
    let before = option_map (λ v. tree_of v.now) c.args.before in
    let shown = c.stays.ensures ∙ ap (λ s. is_hidden (old_at before s) (tree_of c.in-Some.value.now)) c.as_str.ensures.value in
    (hidden_step before c.loop-name.name-iterator c.next.new.self (c.in-Some.name.now, c.in-Some.value.now) c.from-count.result c.loop-name.count _ c.in-Some.ensures.steps (c.from-count.ensures ∙ ap (λ b. from_bool (not b)) shown) c.loop-name.invariant).0

pub loop-name-preserved : goal.loop-name-preserved
loop-name-preserved c =
    let before = option_map (λ v. tree_of v.now) c.args.before in
    let shown = c.stays.ensures ∙ ap (λ s. is_hidden (old_at before s) (tree_of c.in-Some.value.now)) c.as_str.ensures.value in
    (hidden_step before c.loop-name.name-iterator c.next.new.self (c.in-Some.name.now, c.in-Some.value.now) c.from-count.result c.loop-name.count _ c.in-Some.ensures.steps (c.from-count.ensures ∙ ap (λ b. from_bool (not b)) shown) c.loop-name.invariant).1
