use Rattle.tf_expr_operators.proofs.Merging.{get-laid_over}
use Rattle.tf_expr_operators.proofs.laws.later_map_wins.Goals as goal

pub returns : goal.returns
returns c = get-laid_over
