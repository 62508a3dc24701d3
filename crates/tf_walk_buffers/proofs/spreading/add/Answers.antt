use Rattle.tf_graph.proofs.Rows.{row-add}
use Rattle.tf_walk_buffers.proofs.spreading.add.Goals as goal

pub returns-clause-rows : goal.returns-clause-rows
returns-clause-rows c =
    let a = c.args in
    λ p. row-add a.lists.now a.at a.place c.index-lists-at.result c.push.new.self p c.requires c.index-lists-at.is c.in_ok-push.ensures.items
