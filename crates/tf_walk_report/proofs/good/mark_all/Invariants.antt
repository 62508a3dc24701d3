-- what is marked so far
use Rattle.std.proofs.Common.{◌≡◌, ◌<◌, ℕ, true, length}
use Rattle.tf_graph.specs.NodeSet.{has}
use Rattle.tf_walk_report.proofs.good.mark_all.Given as goal

abbrev pub invariant-loop-place : goal.invariant-loop-place
invariant-loop-place l =
    record {
      length_stays : length l.good ≡ length l.fn.good;
      marked : (n : ℕ) → n < l.place → has l.good n ≡ true;
    }
