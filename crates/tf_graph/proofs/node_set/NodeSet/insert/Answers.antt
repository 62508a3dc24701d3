use Rattle.std.proofs.Common.{arith, ◌/◌}
use Rattle.std.proofs.lemmas.List.{get_or_read}
use Rattle.tf_graph.proofs.Bits.{word-inside, node-inside, has-set}
use Rattle.tf_graph.proofs.node_set.NodeSet.insert.Goals as goal

pub index-word-requires : goal.index-word-requires
index-word-requires c =
    let s = c.self.inside in
    omega (arith, word-inside s.words.items s.count c.args.node c.args.self.now c.self.invariant c.self.view_is c.requires)

pub index_mut-requires : goal.index_mut-requires
index_mut-requires c =
    let s = c.self.inside in
    omega (arith, word-inside s.words.items s.count c.args.node c.args.self.now c.self.invariant c.self.view_is c.requires)

pub returns-clause-members : goal.returns-clause-members
returns-clause-members c =
    let s = c.self.inside in
    let word = word-inside s.words.items s.count c.args.node c.args.self.now c.self.invariant c.self.view_is c.requires in
    let node = node-inside s.words.items s.count c.args.node c.args.self.now c.self.view_is c.requires in
    let read = get_or_read s.words.items (c.args.node / 64) c.index-word.result.now word c.index-word.ensures 0 in
    λ k. rw (← c.self.view_is, read) (has-set s.words.items s.count c.args.node word node k)
