-- the marks and the actions that are left decide
use Rattle.std.proofs.Common.{◌≡◌, ◌<◌, ◌&&◌, ℕ, length, map}
use Rattle.tf_graph.specs.NodeSet.{has}
use Rattle.tf_walk_action.specs.ResultViews.{action_results_of}
use Rattle.tf_plan_data.specs.Action.{action_of}
use Rattle.tf_walk_report.specs.Good.{are_good_at}
use Rattle.tf_walk_report.proofs.Fine.{rest_good}
use Rattle.tf_walk_report.proofs.good.note_good.Given as goal

abbrev pub invariant-loop-index : goal.invariant-loop-index
invariant-loop-index l =
    record {
      length_stays : length l.good ≡ length l.fn.good;
      left : (n : ℕ) → n < length l.fn.good → (has l.good n && rest_good l.actions l.results n l.index) ≡ are_good_at (map action_of l.actions) (action_results_of l.results) n;
    }
