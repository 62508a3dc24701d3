use Rattle.std.proofs.Common.{◌≡◌, ◌<◌, length, get_or, refl, ap, arith}
use Rattle.tf_expr_template.specs.Word.{decimal}
use Rattle.tf_expr_template.proofs.Numbers.{decimal-above}
use Rattle.tf_expr_template.proofs.word.number_of.Goals as goal

pub loop-digit-init : goal.loop-digit-init
unfolding decimal
loop-digit-init c = (refl, omega arith)

pub returns-then-number : goal.returns-then-number
returns-then-number c =
    let within : c.loop-digit.digit-index < length c.args.digits.now = omega (arith, c.loop-digit-test.true, ap length c.as_bytes-digit-items.ensures.value) in
    omega (arith, decimal-above c.args.digits.now c.loop-digit.number c.loop-digit.digit-index c.loop-digit.invariant.0 within)

pub returns-then-number-gt-MAX : goal.returns-then-number-gt-MAX
returns-then-number-gt-MAX c =
    let within : c.loop-digit.digit-index < length c.args.digits.now = omega (arith, c.loop-digit-test.true, ap length c.as_bytes-digit-items.ensures.value) in
    let same : get_or c.as_bytes-digit-items.result.now c.loop-digit.digit-index 0 ≡ get_or c.args.digits.now c.loop-digit.digit-index 0 = ap (λ x. get_or x c.loop-digit.digit-index 0) c.as_bytes-digit-items.ensures.value in
    omega (arith, same, decimal-above c.args.digits.now c.loop-digit.number c.loop-digit.digit-index c.loop-digit.invariant.0 within)
