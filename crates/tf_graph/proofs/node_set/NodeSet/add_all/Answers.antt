use Rattle.std.proofs.Common.{◌≡◌, refl, length, arith}
use Rattle.std.specs.Vec.{with_items}
use Rattle.std.proofs.lemmas.List.{with_items_is}
use Rattle.tf_graph.proofs.Bits.{same_count, has-or}
use Rattle.tf_graph.proofs.node_set.NodeSet.add_all.Goals as goal

pub add_bits-requires : goal.add_bits-requires
add_bits-requires c =
    let s = c.self.inside in
    let o = c.other.inside in
    let same : s.count ≡ o.count = same_count s.words.items o.words.items s.count o.count c.args.self.now c.args.other.now c.self.view_is c.other.view_is c.requires in
    rw (c.as_mut_slice.ensures.value, c.as_slice.ensures.value, c.self.invariant, c.other.invariant, same) refl

pub returns-clause-members : goal.returns-clause-members
returns-clause-members c =
    let s = c.self.inside in
    let o = c.other.inside in
    let same : s.count ≡ o.count = same_count s.words.items o.words.items s.count o.count c.args.self.now c.args.other.now c.self.view_is c.other.view_is c.requires in
    let words = with_items s.words c.add_bits.new.words in
    let long : length c.add_bits.new.words ≡ s.words.len = omega arith in
    let items : words.items ≡ c.add_bits.new.words = with_items_is s.words c.add_bits.new.words long in
    λ k. rw (← c.self.view_is, ← c.other.view_is, ← same) (has-or s.words.items o.words.items words.items s.count (rw (items, ← c.as_mut_slice.ensures.value, ← c.as_slice.ensures.value) c.add_bits.ensures) k)
