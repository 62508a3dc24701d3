use Rattle.std.proofs.Common.{◌≡◌}
use Rattle.tf_value_data.specs.Stored.{EachMayBeStored, each_may_be_stored}
use Rattle.tf_value_data.specs.Tree.{entries_view}
use Rattle.tf_value_data.proofs.stored.each_may_be_stored.Given as goal

abbrev pub invariant-loop-value : goal.invariant-loop-value
invariant-loop-value l = record {
  left : each_may_be_stored (entries_view l.value-iterator) ≡ each_may_be_stored (entries_view l.entries.entries);
  stored : EachMayBeStored (entries_view l.value-iterator) → EachMayBeStored (entries_view l.entries.entries);
}
