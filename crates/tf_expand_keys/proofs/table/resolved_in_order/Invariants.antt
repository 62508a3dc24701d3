use Rattle.tf_config_names.specs.Table.{names_in}
use Rattle.tf_value_data.specs.Tree.{entries_view}
use Rattle.tf_expand_keys.proofs.Keeping.{AreKept}
use Rattle.tf_expand_keys.proofs.table.resolved_in_order.Given as goal

abbrev pub invariant-loop-place : goal.invariant-loop-place
invariant-loop-place g l =
    AreKept (g.T.ResourceValues.stage l.stage) (entries_view l.declared.variables.now.entries) (names_in l.declared.names.now) l.order l.wanted l.place-index l.kept.items
