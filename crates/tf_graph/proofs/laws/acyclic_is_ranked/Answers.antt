use Rattle.tf_graph.proofs.GraphLaws.{acyclic-ranked}
use Rattle.tf_graph.proofs.laws.acyclic_is_ranked.Goals as goal

pub returns : goal.returns
returns c = acyclic-ranked
