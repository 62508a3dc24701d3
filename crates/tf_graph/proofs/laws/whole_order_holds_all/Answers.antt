use Rattle.tf_graph.proofs.GraphLaws.{whole_order-all}
use Rattle.tf_graph.proofs.laws.whole_order_holds_all.Goals as goal

pub returns : goal.returns
returns c = whole_order-all
