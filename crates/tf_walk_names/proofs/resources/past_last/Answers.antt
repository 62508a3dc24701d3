use Rattle.std.proofs.Common.{◌<◌, ◌≤◌, ℕ, slice_index_or, refl, arith}
use Rattle.tf_walk_names.proofs.Alone.{below_more, below_all}
use Rattle.tf_walk_names.proofs.resources.past_last.Goals as goal
use Rattle.tf_walk_names.proofs.resources.past_last.Goals.{then-place-past, else-place-past}

pub loop-place-init : goal.loop-place-init
loop-place-init c = λ k due. absurd (omega (arith, due))

pub loop-place-preserved : goal.loop-place-preserved
loop-place-preserved c =
    let places = c.args.places.now in
    let i = c.loop-place.place-index in
    let p : ℕ = slice_index_or places i 0 in
    elim c.if-place-past.branch [
      | then-place-past w ↦
          let low : p < c.if-place-past.past = omega (arith, w.if-place-past, w.past-is) in
          let more : c.loop-place.past ≤ c.if-place-past.past = omega (arith, w.if-place-past, w.past-is) in
          below_more places i p c.loop-place.past c.if-place-past.past refl low more c.loop-place.invariant
      | else-place-past w ↦
          let low : p < c.if-place-past.past = omega (arith, w.if-place-past, w.past-is) in
          let more : c.loop-place.past ≤ c.if-place-past.past = omega (arith, w.past-is) in
          below_more places i p c.loop-place.past c.if-place-past.past refl low more c.loop-place.invariant
    ]

pub returns : goal.returns
returns c = below_all c.args.places.now c.loop-place.place-index c.loop-place.past c.loop-place-test.false c.loop-place.invariant
