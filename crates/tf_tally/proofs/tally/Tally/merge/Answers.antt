use Rattle.std.proofs.Common.{arith}
use Rattle.tf_tally.proofs.Seating.{same_table}
use Rattle.tf_tally.proofs.Steps.{joins}
use Rattle.tf_tally.proofs.tally.Tally.merge.Goals as goal

pub join_seat-requires : goal.join_seat-requires
join_seat-requires g c =
    let one = c.self.invariant in (
      same_table _ _ _ _ c.part.view_is c.self.view_is c.requires.part,
      same_table _ _ _ _ c.other.view_is c.self.view_is c.requires.other,
      c.other.invariant.0,
      omega arith,
      joins _ _ _ c.part.invariant.1 _ _,
    )
