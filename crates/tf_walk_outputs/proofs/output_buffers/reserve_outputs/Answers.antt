use Rattle.std.proofs.Common.{◌∙◌, sym, ap, string_bytes}
use Rattle.tf_config_names.specs.Table.{names_in}
use Rattle.tf_walk_outputs.proofs.Filled.{behind, none_behind, room_behind, all_last}
use Rattle.tf_walk_outputs.specs.Buffers.{HasPlaces, outputs_in}
use Rattle.tf_expr_syntax.specs.ExprTree.{entries_view, tree_of}
use Rattle.tf_walk_outputs.proofs.output_buffers.reserve_outputs.Goals as goal

pub loop-name-preserved : goal.loop-name-preserved
loop-name-preserved c =
    let rooms = c.loop-name.rooms.items in
    let room = c.in_ok-reserve_output.field-0 in
    let rest = entries_view c.next.new.self in
    record {
      outputs =
          ap (λ rs. behind (outputs_in rs) rest) c.in_ok-push.ensures.items
          ∙ room_behind rooms room (string_bytes c.in-Some.name.now) (tree_of c.in-Some.expr.now) rest c.in_ok-reserve_output.ensures.name c.in_ok-reserve_output.ensures.expr
          ∙ ap (λ es. behind (outputs_in rooms) (entries_view es)) (sym c.in-Some.ensures.steps) ∙ c.loop-name.invariant.outputs;
      places = rw c.in_ok-push.ensures.items (all_last (HasPlaces (names_in c.args.names.now)) rooms room c.loop-name.invariant.places c.in_ok-reserve_output.ensures.places);
    }

pub returns-clause-outputs : goal.returns-clause-outputs
returns-clause-outputs c =
    let rooms = outputs_in c.loop-name.rooms.items in
    sym (none_behind rooms) ∙ ap (λ es. behind rooms (entries_view es)) (sym c.in-None.ensures.steps.0) ∙ c.loop-name.invariant.outputs
