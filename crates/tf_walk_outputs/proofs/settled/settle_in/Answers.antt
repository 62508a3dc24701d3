use Rattle.std.proofs.Common.{◌<◌, ℕ, length, slice_index_or, refl, arith}
use Rattle.std.proofs.lemmas.List.{get_or_default}
use Rattle.tf_graph.specs.NodeSet.{has}
use Rattle.tf_config_names.specs.Table.{names_in}
use Rattle.tf_walk_outputs.proofs.Solved.{marked_more, marked_all}
use Rattle.tf_walk_outputs.proofs.settled.settle_in.Goals as goal

pub is_settled-is_settled-requires-clause-place : goal.is_settled-is_settled-requires-clause-place
is_settled-is_settled-requires-clause-place c =
    let i = c.loop-place.place-index in
    let p : ℕ = slice_index_or c.args.order.now i 0 in
    c.requires.within p (i, c.loop-place-test.true, get_or_default c.args.order.now i p 0 c.loop-place-test.true)

pub bounds-settled-place : goal.bounds-settled-place
bounds-settled-place c =
    let i = c.loop-place.place-index in
    let p : ℕ = slice_index_or c.args.order.now i 0 in
    let inside : p < length (names_in c.args.declared.now.names.now) = c.requires.within p (i, c.loop-place-test.true, get_or_default c.args.order.now i p 0 c.loop-place-test.true) in
    omega (arith, c.loop-place.invariant.long)

pub loop-place-preserved : goal.loop-place-preserved
loop-place-preserved c =
    let names = names_in c.args.declared.now.names.now in
    let i = c.loop-place.place-index in
    let p : ℕ = slice_index_or c.args.order.now i 0 in
    let below : i < length c.args.order.now = c.loop-place-test.true in
    marked_more names (has c.args.good.now) c.args.order.now i p c.loop-place.settled c.is_settled-is_settled.result c.requires.order below refl
    (c.requires.within p (i, below, get_or_default c.args.order.now i p 0 below)) c.is_settled-is_settled.ensures c.loop-place.invariant

pub returns : goal.returns
returns c =
    marked_all (names_in c.args.declared.now.names.now) (has c.args.good.now) c.args.order.now c.loop-place.place-index c.loop-place.settled (omega (arith, c.loop-place-test.false)) c.loop-place.invariant
