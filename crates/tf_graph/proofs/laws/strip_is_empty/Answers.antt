use Rattle.tf_graph.proofs.GraphLaws.{strip-empty}
use Rattle.tf_graph.proofs.laws.strip_is_empty.Goals as goal

pub returns : goal.returns
returns c = strip-empty
