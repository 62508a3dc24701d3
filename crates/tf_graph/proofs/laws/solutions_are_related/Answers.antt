use Rattle.tf_graph.proofs.Solving.{solutions-related}
use Rattle.tf_graph.proofs.laws.solutions_are_related.Goals as goal

pub returns : goal.returns
returns g c = solutions-related g.T.Relation.Related
