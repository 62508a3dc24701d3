use Rattle.std.proofs.Common.{◌≡◌, ◌++◌, ◌∷◌, List, [], length, string_bytes, sym, ap, subst, arith}
use Rattle.std.specs.Vec.Iter.{into_iter_items}
use Rattle.tf_expand_keys.specs.Views.{shapes_of}
use Rattle.tf_graph.specs.NodeSet.{has}
use Rattle.tf_config_names.specs.Table.{names_in}
use Rattle.tf_walk_outputs.proofs.Done.{EndsWith, ends_start, ends_more, ends_all, none_listed, one_longer, rooms_less, table_more}
use Rattle.tf_walk_outputs.specs.Keeping.{done_of}
use Rattle.tf_walk_outputs.specs.Buffers.{HavePlaces, outputs_in}
use Rattle.tf_walk_outputs.specs.declared.output_buffers.OutputBuffers.{OutputBuffers}
use Rattle.tf_walk_names.proofs.Shared.{none_answered}
use Rattle.tf_state_data.specs.State.{outputs_of}
use Rattle.tf_expr_syntax.specs.ExprTree.{tree_of}
use Rattle.tf_value_data.specs.Tree.{entries_view}
use Rattle.tf_walk_outputs.proofs.ending.renew_outputs.Goals as goal

pub loop-room-init : goal.loop-room-init
loop-room-init g c =
    let given = c.into_iter-room-iterator.ensures.into_iter_gives.0 in
    record {
      ended = ends_start _ _ _ _ _ _ _ _ _ (ap outputs_in given) c.requires.none;
      stored = λ table. table;
      places = subst (HavePlaces (names_in c.args.declared.now.names.now)) (sym given) c.requires.places;
      room = omega (arith, ap length given, ap length c.requires.none, c.requires.room);
      answered =
          none_answered (entries_view c.args.declared.now.variables.now.entries) (names_in c.args.declared.now.names.now) (shapes_of c.args.shapes.now) (g.R.Results.objects c.args.results.now)
          c.new-stood.result.items c.new-stood.ensures.items;
    }

pub loop-room-preserved : goal.loop-room-preserved
loop-room-preserved g c =
    let variables = entries_view c.args.declared.now.variables.now.entries in
    let names = names_in c.args.declared.now.names.now in
    let shapes = shapes_of c.args.shapes.now in
    let objects = g.R.Results.objects c.args.results.now in
    let settled = has c.args.settled.now in
    let all = outputs_in c.args.rooms.items in
    let kept = outputs_of c.args.kept.entries in
    let old = c.loop-room in
    let room = c.in-Some.room in
    let left = into_iter_items c.next.new.self in
    let step = c.in-Some.ensures.steps.0 in
    let name = string_bytes room.name in
    let saved = outputs_of old.outputs.entries in
    let after = outputs_of c.keep.new.outputs.entries in
    let d = done_of c.end_output-ended.result in
    let more : c.push.new.self.items ≡ old.ends.items ++ c.keep.result ∷ [] = rw c.unwrap.ensures at c.push.ensures.items in
    let before = subst (λ (rs : List OutputBuffers). EndsWith variables names shapes objects settled kept all (outputs_in rs) old.ends.items saved) step old.invariant.ended in
    record {
      ended =
          ends_more variables names shapes objects settled kept all name (tree_of room.expr.now) (outputs_in left) old.ends.items c.push.new.self.items saved after d c.keep.result
          c.end_output-ended.ensures.done c.keep.ensures more before;
      stored = λ table. table_more name d c.keep.result saved after c.end_output-ended.ensures.stored c.keep.ensures (old.invariant.stored table);
      places = (subst (HavePlaces names) step old.invariant.places).1;
      room = omega (arith, rooms_less (into_iter_items old.room-iterator) left room step, one_longer c.push.new.self.items old.ends.items c.keep.result more, old.invariant.room, c.push.ensures.capacity);
      answered = c.end_output-ended.ensures.answered;
    }

pub returns-clause-ended : goal.returns-clause-ended
returns-clause-ended g c =
    let left = into_iter_items c.loop-room.room-iterator in
    let none : left ≡ [] = none_listed left (omega (arith, c.in-None.ensures.steps)) in
    ends_all (entries_view c.args.declared.now.variables.now.entries) (names_in c.args.declared.now.names.now) (shapes_of c.args.shapes.now) (g.R.Results.objects c.args.results.now) (has c.args.settled.now) (outputs_of c.args.kept.entries)
    (outputs_in c.args.rooms.items) (outputs_in left) c.loop-room.ends.items (outputs_of c.loop-room.outputs.entries) (ap outputs_in none) c.loop-room.invariant.ended
