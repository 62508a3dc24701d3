use Rattle.std.proofs.Common.{◌≡◌, ap, arith, length}
use Rattle.tf_graph.proofs.Removals.{start-more, start-done}
use Rattle.tf_graph.proofs.strip.start.Goals as goal

pub loop-node-preserved : goal.loop-node-preserved
loop-node-preserved c =
    let l = c.loop-node in
    rw c.in_ok-note.ensures.remaining (start-more c.args.graph.now l.removal.remaining.items l.removal.free.items c.note.new.removal.free.items l.node (length c.predecessors.result.now) l.invariant (ap length c.predecessors.ensures.nodes) c.in_ok-note.ensures.free)

pub returns : goal.returns
returns c =
    let l = c.loop-node in
    let all : l.node ≡ c.args.graph.now.nodes = omega arith in
    start-done c.args.graph.now l.removal.remaining.items l.removal.free.items c.nodes-node-end.ensures.within (rw all at l.invariant)
