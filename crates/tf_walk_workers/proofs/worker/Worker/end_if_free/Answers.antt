use Rattle.std.proofs.Common.{sym, ◌∙◌}
use Rattle.tf_walk_workers.proofs.worker.Worker.end_if_free.Goals as goal

pub end_action-published-requires-clause-walk : goal.end_action-published-requires-clause-walk
end_action-published-requires-clause-walk g c = rw (c.plan.ensures, c.names.ensures, c.cells.ensures) c.requires.walk.read
