use Rattle.tf_value_data.proofs.Views.{ShownBefore}
use Rattle.tf_value_data.specs.Tree.{entries_view}
use Rattle.tf_config_json.proofs.Made.{made_of}
use Rattle.tf_config_json.proofs.types.entries_as.Given as goal

abbrev pub invariant-loop-name : goal.invariant-loop-name
invariant-loop-name l = ShownBefore (made_of l.element) l.fn.entries.entries l.name-iterator (entries_view l.made.entries)
