use Rattle.std.proofs.Common.{refl, arith}
use Rattle.std.proofs.lemmas.List.{length_push}
use Rattle.tf_graph.proofs.Rows.{row-push_empty}
use Rattle.tf_walk_buffers.proofs.spreading.empty_lists.Goals as goal

pub loop-init : goal.loop-init
loop-init c = record { long = rw c.in_ok-lists.ensures.items refl; empty = λ n. rw c.in_ok-lists.ensures.items refl }

pub loop-preserved : goal.loop-preserved
loop-preserved c = record {
  long = rw c.in_ok-push.ensures.items (omega (arith, length_push c.loop.lists.items c.new.result, c.loop.invariant.long));
  empty = λ n. rw c.in_ok-push.ensures.items (row-push_empty c.loop.lists.items c.new.result n c.new.ensures.items (c.loop.invariant.empty n));
}
