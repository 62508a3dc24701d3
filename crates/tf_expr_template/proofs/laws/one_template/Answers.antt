use Rattle.tf_expr_template.proofs.Alone as alone
use Rattle.tf_expr_template.proofs.laws.one_template.Goals as goal

pub returns : goal.returns
returns c = alone.one_template
