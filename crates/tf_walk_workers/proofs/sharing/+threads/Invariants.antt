-- each thread has one state less to give away
use Rattle.std.proofs.Common.{◌+◌, ◌*◌}
use Rattle.tf_walk_workers.proofs.sharing.+threads.Given as goal

abbrev pub decreases-join+arg2 : goal.decreases-join+arg2
decreases-join+arg2 g l = 2 * l.others.len + 1

abbrev pub decreases-work_at_all : goal.decreases-work_at_all
decreases-work_at_all g l = 2 * l.others.len
