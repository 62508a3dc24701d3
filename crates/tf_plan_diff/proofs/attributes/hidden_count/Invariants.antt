-- the attributes that are left all count so far
use Rattle.std.proofs.Common.{◌≡◌, ◌+◌, length}
use Rattle.std.specs.Prelude.{option_map}
use Rattle.tf_plan_diff.specs.Diff.{hidden_count}
use Rattle.tf_value_data.specs.Tree.{entries_view, tree_of}
use Rattle.tf_plan_diff.proofs.attributes.hidden_count.Given as goal

abbrev pub invariant-loop-name : goal.invariant-loop-name
invariant-loop-name l =
    l.count + hidden_count (option_map (λ v. tree_of v.now) l.before) (entries_view l.name-iterator)
    ≡ hidden_count (option_map (λ v. tree_of v.now) l.before) (entries_view l.attributes.entries) + length l.name-iterator
