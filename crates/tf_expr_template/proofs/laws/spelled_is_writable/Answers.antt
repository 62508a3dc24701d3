use Rattle.tf_expr_template.proofs.Cutting.{template_texts}
use Rattle.tf_expr_template.proofs.Writables.{spelled_writable}
use Rattle.tf_expr_template.proofs.laws.spelled_is_writable.Goals as goal

pub returns-clause-writable : goal.returns-clause-writable
returns-clause-writable c = spelled_writable

pub returns-clause-texts : goal.returns-clause-texts
returns-clause-texts c = template_texts
