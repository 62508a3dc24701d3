-- the excuses so far, with those of the actions that are left
use Rattle.std.proofs.Common.{◌≡◌, ◌≤◌, ◌++◌, length, drop}
use Rattle.std.specs.Prelude.{vec_capacity}
use Rattle.tf_walk_action.specs.ResultViews.{action_results_of}
use Rattle.tf_walk_report.specs.Outcomes.{excuses_from}
use Rattle.tf_walk_report.proofs.gather.tell_excuses.Given as goal

abbrev pub invariant-loop-place : goal.invariant-loop-place
invariant-loop-place l =
    record {
      told : l.excused.items ++ excuses_from l.place (action_results_of (drop l.place l.results)) ≡ excuses_from 0 (action_results_of l.results);
      few : length l.excused.items ≤ l.place;
      room : length l.results ≤ vec_capacity l.excused;
      capacity : vec_capacity l.fn.excused ≤ vec_capacity l.excused;
    }
