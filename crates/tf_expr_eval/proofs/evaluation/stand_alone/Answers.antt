use Rattle.std.proofs.Common.{rules}
use Rattle.tf_expr_eval.proofs.Alone.{not_one}
use Rattle.tf_expr_eval.proofs.evaluation.stand_alone.Goals as goal

pub returns-then-len-ne1 : goal.returns-then-len-ne1
returns-then-len-ne1 c = not_one c.args.parts.now.items c.args.last.now (search rules)
