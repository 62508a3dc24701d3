-- the text so far, with the lines of the changes that are left
use Rattle.std.proofs.Common.{◌≡◌, ◌++◌, drop, map, string_bytes}
use Rattle.std.specs.List.{flat_map}
use Rattle.tf_plan_changes.specs.Views.{change_view}
use Rattle.tf_plan_diff.specs.Diff.{change_lines}
use Rattle.tf_plan_diff.proofs.diff.show_changes.Given as goal

abbrev pub invariant-loop-change : goal.invariant-loop-change
invariant-loop-change l =
    string_bytes l.text ++ flat_map (change_lines l.colours) (map change_view (drop l.change-index l.changes)) ≡ string_bytes l.fn.text ++ flat_map (change_lines l.colours) (map change_view l.changes)
