-- what is told and saved so far, with what comes of the outputs that are left
use Rattle.std.proofs.Common.{◌≤◌, ◌+◌, length}
use Rattle.std.specs.Prelude.{vec_capacity}
use Rattle.std.specs.Vec.Iter.{into_iter_items}
use Rattle.tf_expand_keys.specs.Views.{shapes_of, resolved_names_of}
use Rattle.tf_graph.specs.NodeSet.{has}
use Rattle.tf_config_names.specs.Table.{names_in}
use Rattle.tf_walk_outputs.proofs.Done.{EndsWith}
use Rattle.tf_walk_outputs.specs.Buffers.{HavePlaces, outputs_in}
use Rattle.tf_walk_names.specs.Resolving.{AreResolvedSoFar}
use Rattle.tf_state_data.specs.State.{outputs_of}
use Rattle.tf_value_data.specs.Stored.{IsTable}
use Rattle.tf_value_data.specs.Tree.{entries_view}
use Rattle.tf_walk_outputs.proofs.ending.renew_outputs.Given as goal

abbrev pub invariant-loop-room : goal.invariant-loop-room
invariant-loop-room g l =
    let left = into_iter_items l.room-iterator in
    record {
      ended : EndsWith (entries_view l.declared.variables.now.entries) (names_in l.declared.names.now) (shapes_of l.shapes) (g.R.Results.objects l.results) (has l.settled) (outputs_of l.fn.kept.entries)
          (outputs_in l.fn.rooms.items) (outputs_in left) l.ends.items (outputs_of l.outputs.entries);
      stored : IsTable (outputs_of l.fn.kept.entries) → IsTable (outputs_of l.outputs.entries);
      places : HavePlaces (names_in l.declared.names.now) left;
      room : length l.ends.items + length left ≤ vec_capacity l.ends;
      answered : AreResolvedSoFar (entries_view l.declared.variables.now.entries) (names_in l.declared.names.now) (shapes_of l.shapes) (g.R.Results.objects l.results) (resolved_names_of l.stood.items);
    }
