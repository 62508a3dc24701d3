use Rattle.std.proofs.Common.{arith, ◌/◌}
use Rattle.std.proofs.lemmas.List.{get_or_read}
use Rattle.tf_graph.proofs.Bits.{word-inside, node-inside, has-read}
use Rattle.tf_graph.proofs.node_set.NodeSet.contains.Goals as goal

pub index-requires : goal.index-requires
index-requires c =
    let s = c.self.inside in
    omega (arith, word-inside s.words.items s.count c.args.node c.args.self.now c.self.invariant c.self.view_is c.requires)

pub returns : goal.returns
returns c =
    let s = c.self.inside in
    let word = word-inside s.words.items s.count c.args.node c.args.self.now c.self.invariant c.self.view_is c.requires in
    let node = node-inside s.words.items s.count c.args.node c.args.self.now c.self.view_is c.requires in
    rw (← c.self.view_is) (has-read s.words.items s.count c.args.node c.index.result.now node (get_or_read s.words.items (c.args.node / 64) c.index.result.now word c.index.ensures 0))
