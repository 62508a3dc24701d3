use Rattle.std.proofs.Common.{◌<◌, length, map, slice_index_or, refl, arith}
use Rattle.tf_plan_decision.proofs.Along.{gather_start, gather_more, gather_all}
use Rattle.tf_plan_decision.proofs.whole.gather.Goals as goal
use Rattle.tf_plan_decision.specs.Deciding.{decided_of}
use Rattle.tf_plan_decision.specs.Rows.{rows_of}
use Rattle.tf_plan_order.specs.Table.{numbered_in}

pub loop-place-init : goal.loop-place-init
loop-place-init g c =
    gather_start (map (λ b. (goal.Provider-dyn g (b.vtable, b.value)).meaning b.value) c.args.providers.now) (numbered_in c.args.resource_index.now) c.args.order.now (rows_of c.args.rows.items)
    (decided_of c.nothing-decided.result) c.requires c.nothing-decided.ensures

pub loop-place-preserved : goal.loop-place-preserved
loop-place-preserved g c =
    let i = c.loop-place.place-index in
    let below : i < length c.args.order.now = c.loop-place-test.true in
    gather_more (map (λ b. (goal.Provider-dyn g (b.vtable, b.value)).meaning b.value) c.args.providers.now) (numbered_in c.args.resource_index.now) c.args.order.now (rows_of c.args.rows.items) i (slice_index_or c.args.order.now i 0)
    (rows_of c.loop-place.left.items) (rows_of c.add_place.new.rows.items) (decided_of c.loop-place.decided) (decided_of c.add_place.new.decided) below refl c.in_ok-add_place.ensures.decided c.in_ok-add_place.ensures.others c.loop-place.invariant

pub returns : goal.returns
returns g c =
    gather_all (map (λ b. (goal.Provider-dyn g (b.vtable, b.value)).meaning b.value) c.args.providers.now) (numbered_in c.args.resource_index.now) c.args.order.now (rows_of c.args.rows.items) c.loop-place.place-index
    (rows_of c.loop-place.left.items) (decided_of c.loop-place.decided) (omega (arith, c.loop-place-test.false)) c.loop-place.invariant
