-- the outputs that buffers are for, with those that are left
use Rattle.std.proofs.Common.{◌≡◌}
use Rattle.tf_config_names.specs.Table.{names_in}
use Rattle.tf_walk_outputs.proofs.Filled.{behind}
use Rattle.tf_walk_outputs.specs.Buffers.{HavePlaces, outputs_in}
use Rattle.tf_expr_syntax.specs.ExprTree.{entries_view}
use Rattle.tf_walk_outputs.proofs.output_buffers.reserve_outputs.Given as goal

abbrev pub invariant-loop-name : goal.invariant-loop-name
invariant-loop-name l =
    record {
      outputs : behind (outputs_in l.rooms.items) (entries_view l.name-iterator) ≡ entries_view l.outputs.entries;
      places : HavePlaces (names_in l.names) l.rooms.items;
    }
