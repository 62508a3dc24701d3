-- the names found so far, with those that are left
use Rattle.std.proofs.Common.{◌≡◌, ◌++◌, map, string_bytes}
use Rattle.tf_value_data.specs.Tree.{tree_of, entries_view}
use Rattle.tf_plan_decision.specs.Differing.{differing_entries}
use Rattle.tf_plan_decision.proofs.differing.differing_entries.Given as goal

abbrev pub invariant-loop-name : goal.invariant-loop-name
invariant-loop-name l =
    map string_bytes l.names.items ++ differing_entries (tree_of l.prior) (entries_view l.name-iterator) ≡ differing_entries (tree_of l.prior) (entries_view l.entries.entries)
