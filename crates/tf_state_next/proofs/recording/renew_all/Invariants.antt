-- the metadata updates that are left are made before those that were
use Rattle.std.proofs.Common.{map, vec_len}
use Rattle.tf_state_next.proofs.Pending.{Pending}
use Rattle.tf_state_next.specs.Events.{as_apply, instance_of, metadata_update_of}
use Rattle.tf_state_next.specs.Recorded.{AreApplied}
use Rattle.tf_state_next.proofs.recording.renew_all.Given as goal

abbrev pub invariant-loop-event : goal.invariant-loop-event
invariant-loop-event l = Pending AreApplied instance_of (map as_apply (map metadata_update_of l.metadata_updates.items)) (map as_apply (map metadata_update_of l.fn.metadata_updates.items)) l.resources l.fn.resources

abbrev pub decreases-loop-event : goal.decreases-loop-event
decreases-loop-event l = vec_len l.metadata_updates
