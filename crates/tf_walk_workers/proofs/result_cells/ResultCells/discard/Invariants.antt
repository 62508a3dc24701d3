-- as many ends are left
use Rattle.std.proofs.Common.{vec_len}
use Rattle.tf_walk_workers.proofs.result_cells.ResultCells.discard.Given as goal

abbrev pub invariant-loop-popped : goal.invariant-loop-popped
invariant-loop-popped g l = Unit {0}

abbrev pub decreases-loop-popped : goal.decreases-loop-popped
decreases-loop-popped g l = vec_len l.results
