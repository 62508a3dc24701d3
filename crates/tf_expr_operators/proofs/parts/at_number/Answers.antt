use Rattle.std.proofs.Common.{◌<◌, ◌≤◌, ap, ◌∙◌, length, arith}
use Rattle.std.proofs.lemmas.Int.{to_z-of_z}
use Rattle.tf_expr_operators.specs.Answer.{present_value}
use Rattle.tf_expr_operators.proofs.Numbers.{item_at_whole-index}
use Rattle.tf_expr_operators.proofs.Rows.{item_at-view, item_at-beyond}
use Rattle.tf_expr_operators.proofs.parts.at_number.Goals as goal

pub returns-then-position-len : goal.returns-then-position-len
returns-then-position-len c =
    let vs = c.args.items.items in
    let held = c.ranges.number in
    let is = simp to_z-of_z at c.in-Ok.ensures in
    let within : c.in-Ok.position < length vs = omega (arith, c.args.items.ok.0) in
    ap present_value (item_at_whole-index c.args.number c.in-Ok.position vs is.0 is.1 ∙ item_at-view vs c.in-Ok.position c.swap_remove.result within c.swap_remove.ensures.value)

pub returns : goal.returns
returns c =
    let vs = c.args.items.items in
    let held = c.ranges.number in
    let is = simp to_z-of_z at c.in-Ok.ensures in
    let beyond : length vs ≤ c.in-Ok.position = omega (arith, c.args.items.ok.0) in
    ap present_value (item_at_whole-index c.args.number c.in-Ok.position vs is.0 is.1 ∙ item_at-beyond vs c.in-Ok.position beyond)
