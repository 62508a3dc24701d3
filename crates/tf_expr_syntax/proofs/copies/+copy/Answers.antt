use Rattle.std.proofs.Common.{◌≤◌, length, map, ap, ◌∙◌, arith}
use Rattle.std.proofs.lemmas.List.{take_all}
use Rattle.tf_expr_syntax.proofs.Copied.{pair, parts_view-same}
use Rattle.tf_expr_syntax.proofs.copies.+copy.Goals as goal

pub copy_parts-returns : goal.copy_parts-returns
copy_parts-returns t c =
    let past : length c.args.parts.now.items ≤ c.loop-part.part-index = omega (arith, c.loop-part-test.false, ap length c.deref-part-items.ensures.value) in
    parts_view-same c.loop-part.copies.items c.args.parts.now.items (c.loop-part.invariant ∙ ap (map pair) (take_all c.loop-part.part-index c.args.parts.now.items past))
