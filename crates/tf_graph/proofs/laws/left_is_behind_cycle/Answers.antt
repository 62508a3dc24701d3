use Rattle.tf_graph.proofs.GraphLaws.{left-behind_cycle}
use Rattle.tf_graph.proofs.laws.left_is_behind_cycle.Goals as goal

pub returns : goal.returns
returns c = left-behind_cycle
