-- the outcomes so far
use Rattle.std.proofs.Common.{◌≡◌, ◌≤◌, length, map, take}
use Rattle.std.specs.Prelude.{vec_capacity}
use Rattle.tf_walk_action.specs.ResultViews.{action_results_of}
use Rattle.tf_walk_report.specs.Outcomes.{outcome_of}
use Rattle.tf_walk_report.proofs.gather.tell_outcomes.Given as goal

abbrev pub invariant-loop-ended : goal.invariant-loop-ended
invariant-loop-ended l =
    record {
      told : l.outcomes.items ≡ map outcome_of (action_results_of (take l.ended-index l.results));
      room : length l.results ≤ vec_capacity l.outcomes;
    }
