-- Whether all actions of a resource are good, from one action on.
use Rattle.std.proofs.Common.{ℕ, Bool, List, map, drop, Option}
use Rattle.tf_walk_action.specs.ResultViews.{action_results_of}
use Rattle.tf_walk_action.specs.declared.action_result.ActionResult.{ActionResult}
use Rattle.tf_plan_data.specs.Action.{action_of}
use Rattle.tf_plan_data.specs.declared.action.Action.{Action}
use Rattle.tf_walk_report.specs.Good.{are_good_at}

abbrev pub rest_good : List Action → List (Option ActionResult) → ℕ → ℕ → Bool
rest_good actions results place i = are_good_at (map action_of (drop i actions)) (action_results_of (drop i results)) place
