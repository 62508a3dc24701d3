use Rattle.tf_expr_operators.proofs.Sets.{toset-has_texts}
use Rattle.tf_expr_operators.proofs.laws.sets_have_their_texts.Goals as goal

pub returns : goal.returns
returns c = toset-has_texts
