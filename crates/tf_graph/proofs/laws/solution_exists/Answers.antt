use Rattle.tf_graph.proofs.Solving.{solution-exists}
use Rattle.tf_graph.proofs.laws.solution_exists.Goals as goal

pub returns : goal.returns
returns g c = solution-exists
