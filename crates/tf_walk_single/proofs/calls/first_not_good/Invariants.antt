-- the actions passed are good
use Rattle.std.proofs.Common.{◌≡◌, map, drop, option_map}
use Rattle.std.specs.List.{list_all}
use Rattle.tf_walk_action.specs.ResultViews.{action_result_of}
use Rattle.tf_walk_single.specs.Ends.{done_in}
use Rattle.tf_walk_action.specs.Outcome.{is_good}
use Rattle.tf_walk_single.proofs.calls.first_not_good.Given as goal

abbrev pub invariant-loop-action : goal.invariant-loop-action
invariant-loop-action l =
    list_all (λ n. is_good (done_in (map (option_map action_result_of) l.results) n)) (drop l.action-index l.actions)
    ≡ list_all (λ n. is_good (done_in (map (option_map action_result_of) l.results) n)) l.actions
