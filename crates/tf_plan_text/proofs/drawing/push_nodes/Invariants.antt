-- the text so far, with the lines of the actions that are left
use Rattle.std.proofs.Common.{◌≡◌, ◌++◌, false, map, drop, slice_index_or, string_bytes}
use Rattle.tf_plan_data.specs.Action.{action_of}
use Rattle.tf_plan_text.specs.Dot.{node_lines}
use Rattle.tf_plan_text.proofs.drawing.push_nodes.Given as goal

abbrev pub invariant-loop-action : goal.invariant-loop-action
invariant-loop-action l = record {
  place : l.place ≡ l.action-index;
  lines : string_bytes l.text ++ node_lines (λ n. slice_index_or l.late n false) l.place (map action_of (drop l.action-index l.actions)) ≡ string_bytes l.fn.text ++ node_lines (λ n. slice_index_or l.late n false) 0 (map action_of l.actions);
}
