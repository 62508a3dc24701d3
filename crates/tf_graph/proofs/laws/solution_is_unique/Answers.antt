use Rattle.tf_graph.proofs.Solving.{solution-unique}
use Rattle.tf_graph.proofs.laws.solution_is_unique.Goals as goal

pub returns : goal.returns
returns g c = solution-unique
