use Rattle.tf_expr_template.specs.Canonical.{canonical}
use Rattle.tf_expr_template.proofs.Alone as alone
use Rattle.tf_expr_template.proofs.Texts.{canonical_spelled}
use Rattle.tf_expr_template.proofs.Utf8.{canonical_utf8}
use Rattle.tf_expr_template.proofs.laws.canonical_text.Goals as goal

pub returns-clause-spelled : goal.returns-clause-spelled
returns-clause-spelled c = canonical_spelled

pub returns-clause-alone : goal.returns-clause-alone
returns-clause-alone c = λ v w h j. alone.one_template (canonical w) v w j (canonical_spelled w h)

pub returns-clause-text : goal.returns-clause-text
returns-clause-text c = canonical_utf8
