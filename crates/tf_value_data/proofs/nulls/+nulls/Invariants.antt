use Rattle.std.proofs.Common.{◌≡◌, ◌+◌, ◌*◌, take, map}
use Rattle.tf_value_data.specs.Nulls.{with_nulls}
use Rattle.tf_value_data.specs.Tree.{tree_of}
use Rattle.tf_value_data.specs.declared.value.Value.{Value}
use Rattle.tf_value_data.proofs.nulls.+nulls.Given as goal

abbrev pub decreases-with_nulls : goal.decreases-with_nulls
decreases-with_nulls l = 3 * goal.size-with_nulls l

abbrev pub decreases-items_with_nulls : goal.decreases-items_with_nulls
decreases-items_with_nulls l = 3 * goal.size-items_with_nulls l + 1

abbrev pub decreases-entries_with_nulls : goal.decreases-entries_with_nulls
decreases-entries_with_nulls l = 3 * goal.size-entries_with_nulls l + 2

abbrev pub decreases-entries_with_nulls-retain : goal.decreases-entries_with_nulls-retain
decreases-entries_with_nulls-retain l = 3 * goal.size-entries_with_nulls-retain l + 1

abbrev pub invariant-items_with_nulls-loop-index : goal.invariant-items_with_nulls-loop-index
invariant-items_with_nulls-loop-index l =
    goal.unvisited-items_with_nulls-loop-index l
    × (map tree_of (take l.index l.items.items) ≡ map (λ (v : Value). with_nulls (tree_of v)) (take l.index l.initial.items.items))
