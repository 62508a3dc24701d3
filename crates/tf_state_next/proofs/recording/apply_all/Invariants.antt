-- what came of the applies that are left is recorded before that of those that were
use Rattle.std.proofs.Common.{List, map, vec_len}
use Rattle.tf_state_next.specs.Events.{AreApart, apply_of, instance_of}
use Rattle.tf_state_next.specs.StateDraft.{HaveRoom, count_of}
use Rattle.tf_state_next.specs.Recorded.{AreApplied, AreThere}
use Rattle.tf_state_data.specs.Addresses.{AreByAddress}
use Rattle.tf_state_data.specs.Resource.{ResourceView, resource_of}
use Rattle.tf_state_next.proofs.recording.apply_all.Given as goal

abbrev pub invariant-loop-event : goal.invariant-loop-event
invariant-loop-event l =
    record {
      recorded : (after : List ResourceView) → AreApplied (map apply_of l.applies.items) (map resource_of l.resources) after → AreApplied (map apply_of l.fn.applies.items) (map resource_of l.fn.resources) after;
      ordered : AreByAddress (map resource_of l.resources);
      apart : AreApart instance_of (map apply_of l.applies.items);
      there : AreThere (map (λ a. a.addr) (map apply_of l.applies.items)) (map resource_of l.resources);
      room : HaveRoom (count_of (map (λ a. a.addr) (map apply_of l.applies.items))) l.resources;
    }

abbrev pub decreases-loop-event : goal.decreases-loop-event
decreases-loop-event l = vec_len l.applies
