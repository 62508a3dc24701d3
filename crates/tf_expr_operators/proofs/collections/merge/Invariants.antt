use Rattle.std.proofs.Common.{◌≡◌}
use Rattle.std.specs.Vec.Iter.{into_iter_items}
use Rattle.tf_value_data.specs.Tree.{no_entries, items_view, entries_view}
use Rattle.tf_expr_operators.specs.Functions.{merged_onto}
use Rattle.tf_expr_operators.proofs.collections.merge.Given as goal

abbrev pub invariant-loop-argument : goal.invariant-loop-argument
invariant-loop-argument l = merged_onto (entries_view l.merged.entries) (items_view (into_iter_items l.argument-iterator)) ≡ merged_onto no_entries (items_view l.fn.arguments.items)
