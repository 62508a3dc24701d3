-- what is changed and told so far, with what the actions that are left change and tell
use Rattle.std.proofs.Common.{◌≡◌, ◌≤◌, ◌+◌, ◌++◌, length, map}
use Rattle.std.specs.List.{AllByRecursion}
use Rattle.std.specs.Prelude.{vec_capacity}
use Rattle.std.specs.Vec.Iter.{into_iter_items}
use Rattle.tf_state_next.specs.Events.{apply_of, destroy_of}
use Rattle.tf_walk_action.specs.ResultViews.{action_results_of}
use Rattle.tf_walk_report.specs.ActionReport.{AreJudged, told_in}
use Rattle.tf_walk_report.specs.Change.{MayBeStored, applies_in, changes_in, destroys_in}
use Rattle.tf_walk_report.specs.Diagnostics.{diagnostic_of}
use Rattle.tf_walk_buffers.specs.BuffersHead.{buffers_head}
use Rattle.tf_walk_report.proofs.additions.report_actions.Given as goal

abbrev pub invariant-loop-room : goal.invariant-loop-room
invariant-loop-room g l =
    let ms = map (λ b. (goal.Provider-dyn g (b.vtable, b.value)).meaning b.value) l.providers in
    let rooms = into_iter_items l.room-iterator in
    let results = into_iter_items l.ends in
    let left = changes_in ms (map buffers_head rooms) (action_results_of results) in
    let all = changes_in ms (map buffers_head l.fn.rooms.items) (action_results_of l.fn.results.items) in
    record {
      judged : AreJudged ms (map (λ h. h.op) (map buffers_head rooms)) (action_results_of results);
      paired : length rooms ≡ length results;
      applies : map apply_of l.events.applies.items ++ applies_in left ≡ applies_in all;
      destroys : map destroy_of l.events.destroys.items ++ destroys_in left ≡ destroys_in all;
      metadata_updates : l.events.metadata_updates ≡ l.fn.events.metadata_updates;
      tells : map diagnostic_of l.diagnostics.items ++ told_in (map buffers_head rooms) (action_results_of results)
          ≡ told_in (map buffers_head l.fn.rooms.items) (action_results_of l.fn.results.items);
      room_for_applies : length l.events.applies.items + length results ≤ vec_capacity l.events.applies;
      room_for_destroys : length l.events.destroys.items + length results ≤ vec_capacity l.events.destroys;
      room_for_diagnostics : length l.diagnostics.items + length results ≤ vec_capacity l.diagnostics;
      capacity : vec_capacity l.fn.diagnostics ≤ vec_capacity l.diagnostics;
      stored : AllByRecursion MayBeStored left → AllByRecursion MayBeStored all;
      few : length l.diagnostics.items + length results ≤ length l.fn.results.items;
    }
