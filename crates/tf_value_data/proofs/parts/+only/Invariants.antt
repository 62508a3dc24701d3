use Rattle.std.proofs.Common.{◌≡◌, drop}
use Rattle.tf_value_data.specs.Parts.{items_have_only, entries_have_only}
use Rattle.tf_value_data.specs.Tree.{items_view, entries_view}
use Rattle.tf_value_data.proofs.parts.+only.Given as goal

abbrev pub invariant-items_have_only-loop-item : goal.invariant-items_have_only-loop-item
invariant-items_have_only-loop-item l = items_have_only l.allowed.unknowns l.allowed.sets (items_view (drop l.item-index l.item-items)) ≡ items_have_only l.allowed.unknowns l.allowed.sets (items_view l.item-items)

abbrev pub invariant-entries_have_only-loop-value : goal.invariant-entries_have_only-loop-value
invariant-entries_have_only-loop-value l = entries_have_only l.allowed.unknowns l.allowed.sets (entries_view l.value-iterator) ≡ entries_have_only l.allowed.unknowns l.allowed.sets (entries_view l.entries.entries)
