-- the destroys that are left are recorded before those that were
use Rattle.std.proofs.Common.{map, vec_len}
use Rattle.tf_state_next.proofs.Pending.{Pending}
use Rattle.tf_state_next.specs.Events.{destroy_of, object_of}
use Rattle.tf_state_next.specs.Recorded.{AreDestroyed}
use Rattle.tf_state_next.proofs.recording.destroy_all.Given as goal

abbrev pub invariant-loop-event : goal.invariant-loop-event
invariant-loop-event l = Pending AreDestroyed object_of (map destroy_of l.destroys.items) (map destroy_of l.fn.destroys.items) l.resources l.fn.resources

abbrev pub decreases-loop-event : goal.decreases-loop-event
decreases-loop-event l = vec_len l.destroys
