-- the text so far, with the lines of the attributes that are left
use Rattle.std.proofs.Common.{◌≡◌, ◌++◌, string_bytes}
use Rattle.std.specs.Prelude.{option_map}
use Rattle.tf_plan_data.specs.Action.{names_of}
use Rattle.tf_plan_diff.specs.Diff.{changed_lines}
use Rattle.tf_value_data.specs.Tree.{entries_view, tree_of}
use Rattle.tf_plan_diff.proofs.attributes.show_changed.Given as goal

abbrev pub invariant-loop-name : goal.invariant-loop-name
invariant-loop-name l =
    string_bytes l.text ++ changed_lines (names_of l.names) (option_map (λ v. tree_of v.now) l.before) (entries_view l.name-iterator)
    ≡ string_bytes l.fn.text ++ changed_lines (names_of l.names) (option_map (λ v. tree_of v.now) l.before) (entries_view l.attributes.entries)
