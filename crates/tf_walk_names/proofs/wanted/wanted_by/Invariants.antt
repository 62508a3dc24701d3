use Rattle.tf_config_names.specs.Table.{names_in}
use Rattle.tf_walk_names.proofs.Wanting.{AreSpread}
use Rattle.tf_walk_names.proofs.wanted.wanted_by.Given as goal

abbrev pub invariant-loop-index : goal.invariant-loop-index
invariant-loop-index l = AreSpread (names_in l.declared.names.now) l.order l.others l.index l.wanted.items
