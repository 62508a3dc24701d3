-- the text so far, with the lines of the names that are left
use Rattle.std.proofs.Common.{◌≡◌, ◌++◌, drop, string_bytes}
use Rattle.std.specs.List.{flat_map}
use Rattle.tf_plan_data.specs.Action.{names_of}
use Rattle.tf_value_data.specs.Tree.{tree_of}
use Rattle.tf_plan_text.specs.Text.{changed_line}
use Rattle.tf_plan_text.proofs.text.show_changes.Given as goal

abbrev pub invariant-loop-name : goal.invariant-loop-name
invariant-loop-name l =
    string_bytes l.text ++ flat_map (changed_line (tree_of l.asked)) (names_of (drop l.name-index l.names)) ≡ string_bytes l.fn.text ++ flat_map (changed_line (tree_of l.asked)) (names_of l.names)
