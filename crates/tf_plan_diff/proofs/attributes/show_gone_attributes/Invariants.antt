-- the text so far, with the lines of the attributes that are left
use Rattle.std.proofs.Common.{◌≡◌, ◌++◌, string_bytes}
use Rattle.tf_plan_diff.specs.Diff.{gone_lines}
use Rattle.tf_value_data.specs.Tree.{entries_view}
use Rattle.tf_plan_diff.proofs.attributes.show_gone_attributes.Given as goal

abbrev pub invariant-loop-name : goal.invariant-loop-name
invariant-loop-name l =
    string_bytes l.text ++ gone_lines (entries_view l.name-iterator) ≡ string_bytes l.fn.text ++ gone_lines (entries_view l.attributes.entries)
