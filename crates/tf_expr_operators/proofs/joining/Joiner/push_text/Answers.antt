use Rattle.tf_expr_operators.proofs.Joined.{text-pushed, text-refused, others-stay}
use Rattle.tf_expr_operators.proofs.joining.Joiner.push_text.Goals as goal

pub returns-then-fits-clause-ok : goal.returns-then-fits-clause-ok
returns-then-fits-clause-ok c =
    text-pushed c.push_str.result c.args.self.now.joined c.in-Text.text c.as_str.result.now c.args.literal.now _ c.in-Text.is c.as_str.ensures.value c.push_str.ensures.bytes (c.fits.ensures.0 c.if-fits.true)

pub returns-else-fits-clause-ok : goal.returns-else-fits-clause-ok
returns-else-fits-clause-ok c =
    text-refused c.args.self.now.joined c.in-Text.text c.as_str.result.now c.args.literal.now c.in-Text.is c.as_str.ensures.value (λ w. let is = c.fits.ensures.1 w in absurd (cc))

pub returns-in_default : goal.returns-in_default
returns-in_default c = record {
  ok = λ ts h. others-stay _ ts _ c.in_default.not-Text h;
  err = tt;
}
