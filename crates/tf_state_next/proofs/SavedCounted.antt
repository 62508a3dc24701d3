-- No more records are saved than there are creates and updates.
use Rattle.std.proofs.Common.{◌≤◌, cond, [], ◌∷◌, arith}
use Rattle.std.proofs.lemmas.List.Sums.{sum_by-cons}
use Rattle.tf_state_next.specs.Ends.{ApplyResultView, unwanted, unplanned, nothing, saved}
use Rattle.tf_state_next.specs.ObjectLaws.{RoomsSuffice, is_planned}
use Rattle.tf_state_next.specs.Room.{records_more}

one_at_most : (a : ApplyResultView) → records_more a ≤ cond (is_planned a) 1 0
one_at_most (saved s) = omega arith
one_at_most nothing = omega arith
one_at_most unplanned = omega arith
one_at_most unwanted = omega arith

pub rooms_enough : RoomsSuffice
rooms_enough [] = omega arith
rooms_enough (a ∷ more) =
    let rest = rooms_enough more in
    omega (arith, one_at_most a, sum_by-cons records_more a more, sum_by-cons (λ x. cond (is_planned x) 1 0) a more)
