use Rattle.tf_graph.proofs.Solving.{order-grows}
use Rattle.tf_graph.proofs.laws.order_grows.Goals as goal

pub returns : goal.returns
returns c = order-grows
