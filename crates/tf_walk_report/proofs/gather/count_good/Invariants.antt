-- how many of those from this one on are good
use Rattle.std.proofs.Common.{◌≡◌, ◌≤◌, ◌+◌, length, map, drop}
use Rattle.tf_plan_data.specs.Action.{action_of}
use Rattle.tf_walk_action.specs.ResultViews.{action_results_of}
use Rattle.tf_walk_report.specs.Outcomes.{good_totals}
use Rattle.tf_walk_report.proofs.gather.count_good.Given as goal

abbrev pub invariant-loop-index : goal.invariant-loop-index
invariant-loop-index l =
    record {
      counted : l.totals ≡ good_totals (map action_of (drop l.index l.actions)) (action_results_of (drop l.index l.results));
      creates : l.totals.0 + l.index ≤ length l.actions;
      updates : l.totals.1 + l.index ≤ length l.actions;
      destroys : l.totals.2 + l.index ≤ length l.actions;
    }
