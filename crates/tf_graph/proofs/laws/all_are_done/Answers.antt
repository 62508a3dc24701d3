use Rattle.tf_graph.proofs.Solving.{all_done}
use Rattle.tf_graph.proofs.laws.all_are_done.Goals as goal

pub returns : goal.returns
returns c = all_done
