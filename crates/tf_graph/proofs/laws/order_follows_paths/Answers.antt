use Rattle.tf_graph.proofs.Solving.{order-follows_paths}
use Rattle.tf_graph.proofs.laws.order_follows_paths.Goals as goal

pub returns : goal.returns
returns c = order-follows_paths
