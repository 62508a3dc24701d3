use Rattle.tf_graph.proofs.Removals.{taken-whole}
use Rattle.tf_graph.proofs.graph.Graph.order.Goals as goal

pub returns : goal.returns
returns c = taken-whole c.args.self.now _ _ c.in_ok-order.ensures.left c.in_ok-order.ensures.order
