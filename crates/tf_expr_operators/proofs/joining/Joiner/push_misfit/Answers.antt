use Rattle.std.proofs.Common.{sym, ap, ◌∙◌}
use Rattle.tf_expr_operators.specs.Joiner.{joined_so_far}
use Rattle.tf_expr_operators.proofs.Joined.{misfit-joins, unknown-stays, known-states}
use Rattle.tf_expr_operators.proofs.joining.Joiner.push_misfit.Goals as goal

pub returns-in-Unknown : goal.returns-in-Unknown
returns-in-Unknown c = λ ts t u n h. ap joined_so_far c.in-Unknown.is ∙ unknown-stays ts t (sym (ap joined_so_far c.in-Unknown.is) ∙ h)

pub returns-in_default : goal.returns-in_default
returns-in_default c = λ ts t u n h. misfit-joins (joined_so_far c.args.self.now.joined) ts t u n (known-states _ c.in_default.not-Unknown) h
