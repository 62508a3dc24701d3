use Rattle.tf_graph.proofs.GraphLaws.{reached-closed}
use Rattle.tf_graph.proofs.laws.reached_is_closed.Goals as goal

pub returns : goal.returns
returns c = reached-closed
