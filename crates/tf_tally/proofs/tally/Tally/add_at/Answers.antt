use Rattle.std.proofs.Common.{arith}
use Rattle.tf_tally.proofs.Seating.{same_table}
use Rattle.tf_tally.proofs.Steps.{adds}
use Rattle.tf_tally.proofs.tally.Tally.add_at.Goals as goal

pub compare_exchange_with-requires : goal.compare_exchange_with-requires
compare_exchange_with-requires g c =
    let many = c.self.invariant in
    let within = c.requires.word in (
      same_table _ _ _ _ c.part.view_is c.self.view_is c.requires.part,
      omega arith,
      adds _ _ _ c.args.word 0 0 _ _ c.part.invariant.1,
    )
