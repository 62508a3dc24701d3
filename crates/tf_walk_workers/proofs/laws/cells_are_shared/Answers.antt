use denote.Param.Send.{sendable}
use Rattle.tf_walk_workers.proofs.SharedCells.{cells_sync}
use Rattle.tf_walk_workers.proofs.laws.cells_are_shared.Goals as goal

pub share-requires-sync-T : goal.share-requires-sync-T
share-requires-sync-T g c κs within = search (cells_sync, sendable)
