use Rattle.tf_graph.proofs.Rows.{row-add}
use Rattle.tf_graph.proofs.graph.add.Goals as goal

pub returns : goal.returns
returns c =
    λ n. row-add c.args.lists.now c.args.at c.args.node c.index-lists-at.result c.push.new.self n c.requires c.index-lists-at.is c.in_ok-push.ensures.items
