use Rattle.tf_graph.proofs.Solving.{ranked-no_cycle}
use Rattle.tf_graph.proofs.laws.ranked_has_no_cycle.Goals as goal

pub returns : goal.returns
returns c = ranked-no_cycle
