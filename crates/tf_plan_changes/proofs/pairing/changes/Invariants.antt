-- the changes of the actions so far
use Rattle.std.proofs.Common.{◌≡◌, false, map, slice_index_or, take}
use Rattle.std.specs.List.{filter_map}
use Rattle.tf_plan_changes.specs.Changes.{change_of}
use Rattle.tf_plan_changes.specs.Views.{change_view}
use Rattle.tf_plan_data.specs.Action.{action_of}
use Rattle.tf_plan_changes.proofs.pairing.changes.Given as goal

abbrev pub invariant-loop-action : goal.invariant-loop-action
invariant-loop-action l =
    map change_view l.made.items ≡ filter_map (change_of (λ n. slice_index_or l.late n false) (map action_of l.actions)) (map action_of (take l.action-index l.actions))
