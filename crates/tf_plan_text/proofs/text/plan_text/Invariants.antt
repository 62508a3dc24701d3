-- the lines of the actions so far
use Rattle.std.proofs.Common.{◌≡◌, false, map, take, slice_index_or, string_bytes}
use Rattle.std.specs.List.{flat_map}
use Rattle.tf_plan_data.specs.Action.{action_of}
use Rattle.tf_plan_text.specs.Text.{action_lines}
use Rattle.tf_plan_text.proofs.text.plan_text.Given as goal

abbrev pub invariant-loop-action : goal.invariant-loop-action
invariant-loop-action l = string_bytes l.text ≡ flat_map (action_lines (λ n. slice_index_or l.late n false)) (map action_of (take l.action-index l.actions))
