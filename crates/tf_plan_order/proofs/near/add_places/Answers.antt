use Rattle.std.proofs.Common.{arith}
use Rattle.std.proofs.lemmas.List.{take_all}
use Rattle.std.proofs.lemmas.List.Elements.{Contains-get_or}
use Rattle.tf_plan_order.proofs.near.add_places.Goals as goal

pub insert-requires : goal.insert-requires
insert-requires c =
    let l = c.loop-place in
    omega (arith, l.invariant.grown.long, c.requires _ (Contains-get_or c.args.places.now l.place-index 0 (omega arith)))

pub returns-clause-added : goal.returns-clause-added
returns-clause-added c =
    let l = c.loop-place in
    λ k h. l.invariant.added k (rw (take_all l.place-index c.args.places.now (omega arith)) h)
