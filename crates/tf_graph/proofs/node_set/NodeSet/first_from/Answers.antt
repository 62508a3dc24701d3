use Rattle.std.proofs.Common.{◌≡◌, ◌+◌, ◌/◌, None, Some, length, arith}
use Rattle.tf_graph.proofs.Bits.{length-set_of_bits}
use Rattle.tf_graph.proofs.Firsts.{first-member, none-member, none-member_at_all}
use Rattle.tf_graph.specs.NodeSet.{bit_of, IsFirstFrom}
use Rattle.tf_graph.proofs.node_set.NodeSet.first_from.Goals as goal

pub next_bit-requires : goal.next_bit-requires
next_bit-requires c =
    let long : length c.as_slice.result.now ≡ c.self.inside.count / 64 + 1 = rw c.as_slice.ensures.value c.self.invariant in
    omega arith

pub returns-in-Some-clause-first : goal.returns-in-Some-clause-first
returns-in-Some-clause-first c =
    let s = c.self.inside in
    let bits : IsFirstFrom (bit_of s.words.items) c.args.from (Some c.in-Some.node) = rw (← c.as_slice.ensures.value) c.in-Some.ensures in
    rw (← c.self.view_is) (first-member s.words.items s.count c.args.from c.in-Some.node c.if-node-count.true bits)

pub returns-in-Some-clause-below : goal.returns-in-Some-clause-below
returns-in-Some-clause-below c =
    let s = c.self.inside in
    rw (← c.self.view_is, length-set_of_bits s.words.items s.count) c.if-node-count.true

pub returns-in_default-clause-first : goal.returns-in_default-clause-first
returns-in_default-clause-first c =
    let s = c.self.inside in
    let bits : IsFirstFrom (bit_of s.words.items) c.args.from (Some c.in-Some.node) = rw (← c.as_slice.ensures.value) c.in-Some.ensures in
    rw (← c.self.view_is) (none-member s.words.items s.count c.args.from c.in-Some.node c.if-node-count.false bits)

pub returns-in_default-2-clause-first : goal.returns-in_default-2-clause-first
returns-in_default-2-clause-first c =
    let s = c.self.inside in
    let bits : IsFirstFrom (bit_of s.words.items) c.args.from None = rw (← c.as_slice.ensures.value) c.in_default.ensures in
    rw (← c.self.view_is) (none-member_at_all s.words.items s.count c.args.from bits)
