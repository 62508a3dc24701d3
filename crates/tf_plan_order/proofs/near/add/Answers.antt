use Rattle.tf_graph.proofs.Rows.{row-add}
use Rattle.tf_plan_order.proofs.near.add.Goals as goal

pub returns-clause-rows : goal.returns-clause-rows
returns-clause-rows c =
    λ n. row-add c.args.lists.now c.args.at c.args.place c.index-lists-at.result c.push.new.self n c.requires c.index-lists-at.is c.in_ok-push.ensures.items
