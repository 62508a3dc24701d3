-- the actions passed are good
use Rattle.std.proofs.Common.{◌≡◌, drop}
use Rattle.std.specs.List.{list_all}
use Rattle.tf_walk_action.specs.ResultViews.{action_results_of}
use Rattle.tf_walk_action.specs.Outcome.{done_at, is_good}
use Rattle.tf_walk.proofs.fitting.are_good.Given as goal

abbrev pub invariant-loop-action : goal.invariant-loop-action
invariant-loop-action l =
    list_all (λ n. is_good (done_at (action_results_of l.results) n)) (drop l.action-index l.actions)
    ≡ list_all (λ n. is_good (done_at (action_results_of l.results) n)) l.actions
