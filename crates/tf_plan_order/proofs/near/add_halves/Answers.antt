use Rattle.std.proofs.Common.{arith}
use Rattle.std.proofs.lemmas.List.{take_all}
use Rattle.std.proofs.lemmas.List.Elements.{Contains-get_or}
use Rattle.tf_plan_order.proofs.near.add_halves.Goals as goal

pub add_half-requires-clause-inside : goal.add_half-requires-clause-inside
add_half-requires-clause-inside c =
    let l = c.loop-place in
    c.requires.within _ (Contains-get_or c.args.places.now l.place-index 0 (omega arith))

pub returns-clause-added : goal.returns-clause-added
returns-clause-added c =
    let l = c.loop-place in
    λ k h. l.invariant.added k (rw (take_all l.place-index c.args.places.now (omega arith)) h)
