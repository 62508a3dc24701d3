use Rattle.std.proofs.Common.{arith}
use Rattle.tf_tally.proofs.Seating.{same_table, has_two}
use Rattle.tf_tally.proofs.Steps.{splits}
use Rattle.tf_tally.proofs.tally.Tally.split_off.Goals as goal

pub split_seat-seat-requires : goal.split_seat-seat-requires
split_seat-seat-requires g c =
    let one = c.self.invariant in (
      same_table _ _ _ _ c.part.view_is c.self.view_is c.requires.part,
      omega arith,
      splits _ _ _ (has_two _ _ c.part.view_is c.requires.two),
    )
