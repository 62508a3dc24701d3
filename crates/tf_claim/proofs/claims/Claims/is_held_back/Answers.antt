use Rattle.std.proofs.Common.{sym, ◌∙◌, arith}
use Rattle.tf_claim.proofs.Seating.{seated}
use Rattle.tf_claim.proofs.Words as words
use Rattle.tf_claim.proofs.claims.Claims.is_held_back.Goals as goal

pub load-count-requires : goal.load-count-requires
load-count-requires g c =
    let at = seated _ _ _ _ _ c.self.view_is c.seat.view_is c.self.invariant.0 c.requires.seat in (
      at.table,
      omega (arith, at.nodes, at.key_nodes, c.self.invariant.1),
      words.counts_as _ _ _ c.seat.invariant.2 _ _ _ _ (at.key ∙ sym c.requires.about.0) (sym c.requires.about.1) (omega (arith, at.nodes, at.key_nodes, c.self.invariant.1)),
    )
