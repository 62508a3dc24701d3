use denote.Param.Send.{sendable}
use Rattle.tf_tally.proofs.Sharing.{part_sync}
use Rattle.tf_tally.proofs.laws.parts_are_shared.Goals as goal

pub share-requires-sync-T : goal.share-requires-sync-T
share-requires-sync-T g c κs within =
    let send = c.type_bounds.send-E in search (part_sync, sendable)
