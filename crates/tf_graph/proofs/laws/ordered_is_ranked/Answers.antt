use Rattle.tf_graph.proofs.Solving.{ranked-by_order}
use Rattle.tf_graph.proofs.laws.ordered_is_ranked.Goals as goal

pub returns : goal.returns
returns c = ranked-by_order
