use Rattle.tf_graph.proofs.GraphLaws.{closure-least}
use Rattle.tf_graph.proofs.laws.closure_is_least.Goals as goal

pub returns : goal.returns
returns c = closure-least
