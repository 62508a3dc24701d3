use Rattle.std.proofs.Common.{◌≡◌, ◌≤◌, ◌<◌, ◌^◌, length, string_bytes, sym, subst, ap, arith, ◌∙◌, w64}
use Rattle.std.proofs.lemmas.Fmt.{length_signed_le}
use Rattle.std.proofs.lemmas.Int.{to_z-of_z}
use Rattle.std.specs.Fmt.{signed_decimal}
use Rattle.std.specs.Int.Signed.{mag}
use Rattle.tf_plan_object.proofs.Within.{short_planned}
use Rattle.tf_plan_object.proofs.argument.decimal.Goals as goal

pub returns-clause-within : goal.returns-clause-within
returns-clause-within c =
    let n = c.args.number in
    let small : mag n < 2 ^ 63 = c.ranges.number.sfits in
    let short : length (signed_decimal n) ≤ 20 = length_signed_le 19 n (omega (arith, small)) small in
    let is : string_bytes c.in_ok-text.text ≡ signed_decimal n = c.in_ok-text.ensures.ok ∙ ap signed_decimal (to_z-of_z w64 n c.ranges.number) in
    short_planned (string_bytes c.in_ok-text.text) (subst (λ s. length s ≤ 20) (sym is) short)
