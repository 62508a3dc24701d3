use Rattle.std.proofs.Common.{◌≡◌}
use Rattle.tf_value_data.specs.Tree.{entries_view}
use Rattle.tf_config_json.specs.Types.{takes_entries}
use Rattle.tf_config_json.proofs.types.takes_entries.Given as goal

abbrev pub invariant-loop-value : goal.invariant-loop-value
invariant-loop-value l = takes_entries l.element (entries_view l.value-iterator) ≡ takes_entries l.element (entries_view l.entries.entries)
