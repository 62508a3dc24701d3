-- what the records so far are given anew
use Rattle.std.proofs.Common.{◌≡◌, map, take}
use Rattle.tf_plan_data.specs.Plan.{plan_of}
use Rattle.tf_state_next.specs.Events.{metadata_update_of}
use Rattle.tf_walk_buffers.specs.Unchanged.{metadata_update_of_unchanged, unchanged_record_of}
use Rattle.tf_walk_buffers.proofs.updating.updates_of.Given as goal

abbrev pub invariant-loop-one : goal.invariant-loop-one
invariant-loop-one l = map metadata_update_of l.found.items ≡ map (metadata_update_of_unchanged (plan_of l.plan)) (map unchanged_record_of (take l.one-index l.unchanged))
