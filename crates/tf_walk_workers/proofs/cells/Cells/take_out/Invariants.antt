use Rattle.std.proofs.Common.{length}
use Rattle.tf_walk_workers.proofs.Gathering.{IsGathering}
use Rattle.tf_walk_workers.proofs.TakingOut.{IsTakenOut}
use Rattle.tf_walk_workers.proofs.cells.Cells.take_out.Given as goal

abbrev pub invariant-loop-cell : goal.invariant-loop-cell
invariant-loop-cell g l =
    IsTakenOut g.N.WalkBrand.meanings g.N.WalkBrand.plan l.fn.self l.cells.items l.results
    × IsGathering (length l.cells.items) l.fn.self l.results l.fn.part l.part

abbrev pub decreases-loop-cell : goal.decreases-loop-cell
decreases-loop-cell g l = goal.left-loop-cell g l
