use Rattle.std.proofs.Common.{◌≡◌, ◌++◌}
use Rattle.tf_config_names.proofs.cycles.in_order.Given as goal

abbrev pub invariant-loop-text : goal.invariant-loop-text
invariant-loop-text l = l.list.items ++ l.text-iterator ≡ l.fn.texts.keys
