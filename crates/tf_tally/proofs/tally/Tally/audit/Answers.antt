use Rattle.std.proofs.Common.{arith}
use Rattle.tf_tally.proofs.Seating.{same_table}
use Rattle.tf_tally.proofs.Steps.{audits}
use Rattle.tf_tally.proofs.tally.Tally.audit.Goals as goal

pub load-requires : goal.load-requires
load-requires g c =
    let one = c.self.invariant in (
      same_table _ _ _ _ c.part.view_is c.self.view_is c.requires.part,
      omega arith,
      audits _ _ _ 0 _ c.part.invariant.1,
    )
