use Rattle.std.proofs.Common.{◌≡◌, ◌<◌, ◌^◌, drop}
use Rattle.tf_expr_template.specs.Word.{decimal, decimal_from}
use Rattle.tf_expr_template.proofs.word.number_of.Given as goal

abbrev pub invariant-loop-digit : goal.invariant-loop-digit
invariant-loop-digit l = (decimal l.fn.digits ≡ decimal_from l.number (drop l.digit-index l.fn.digits)) × (l.number < 2 ^ 63)
