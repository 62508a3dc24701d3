use Rattle.std.proofs.Common.{◌≡◌, arith}
use Rattle.std.specs.Vec.{with_items}
use Rattle.std.proofs.lemmas.List.{with_items_is}
use Rattle.tf_plan_order.proofs.Keeping.{kept-more}
use Rattle.tf_plan_order.proofs.near.Near.new.Goals as goal

pub loop-place-preserved : goal.loop-place-preserved
loop-place-preserved c =
    let l = c.loop-place in
    let own = with_items l.own c.list.new.lists in
    let early = with_items l.early c.note.new.early in
    let own_is : own.items ≡ c.list.new.lists = with_items_is l.own c.list.new.lists (omega arith) in
    let early_is : early.items ≡ c.note.new.early = with_items_is l.early c.note.new.early (omega (arith, c.note.ensures.count)) in
    let lists = c.deref_mut.ensures.value in
    let more = c.deref_mut-in-loop-place.ensures.value in
    rw (own_is, early_is) (kept-more c.args.ties.now c.args.actions.now l.place l.own.items c.list.new.lists l.early.items c.note.new.early c.loop-place-test.true l.invariant
    (rw lists at c.list.ensures.count) (rw lists at c.in_ok-list.ensures.kept) (rw lists at c.in_ok-list.ensures.led) (rw lists at c.in_ok-list.ensures.added)
    (rw more at c.note.ensures.count) (rw more at c.in_ok-note.ensures.rows))
