use Rattle.std.proofs.Common.{arith}
use Rattle.tf_graph.proofs.Searches.{closure-known}
use Rattle.tf_graph.proofs.graph.Graph.closure.Goals as goal

pub returns : goal.returns
returns c =
    let l = c.loop-node-2 in
    closure-known c.args.self.now _ l.known c.nodes-nodes.ensures.within l.invariant.told.count l.invariant.told.count l.invariant.told.rows_known (λ k h. l.invariant.done k (omega arith))
