use Rattle.std.proofs.Common.{refl, arith}
use Rattle.std.proofs.lemmas.List.{length_push}
use Rattle.tf_graph.proofs.Rows.{row-push_empty}
use Rattle.tf_graph.proofs.graph.empty_lists.Goals as goal

pub loop-count-init : goal.loop-count-init
loop-count-init c = record { long = rw c.in_ok-lists.ensures.items refl; empty = λ n. rw c.in_ok-lists.ensures.items refl }

pub loop-count-preserved : goal.loop-count-preserved
loop-count-preserved c = record {
  long = rw c.in_ok-push.ensures.items (omega (arith, length_push c.loop-count.lists.items c.in_ok-list.list, c.loop-count.invariant.long));
  empty = λ n. rw c.in_ok-push.ensures.items (row-push_empty c.loop-count.lists.items c.in_ok-list.list n c.in_ok-list.ensures.items (c.loop-count.invariant.empty n));
}
