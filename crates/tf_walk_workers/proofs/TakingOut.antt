-- Ends that are taken out of their cells, from the last cell on.
use Rattle.std.specs.Prelude.{◌≡◌, ◌≤◌, ◌<◌, ℕ, List, length, Option, None, IfSome, slice_index_or}
use Rattle.tf_plan_data.specs.Plan.{PlanView}
use Rattle.tf_provider_protocol.specs.Meaning.{Meaning}
use Rattle.tf_walk_action.specs.ResultViews.{action_results_of, ended_action}
use Rattle.tf_walk_action.specs.Outcome.{done_at}
use Rattle.tf_walk_action.specs.declared.action_result.ActionResult.{ActionResult}
use Rattle.tf_walk_workers.specs.Ideal.{IsTrueTo, IsNumbered}

-- So far: the cells that are left are those of the first actions, whose places are free; what stands in a place is true
-- of its action.
pub record IsTakenOut (ms : List Meaning) (plan : PlanView) (count : ℕ) (cells : List ℕ) (results : List (Option ActionResult)) : Type 0 where
  pub numbered : IsNumbered cells
  pub sized : length results ≡ count
  pub within : length cells ≤ count
  pub free : (n : ℕ) → n < length cells → slice_index_or results n None ≡ None
  pub own : (n : ℕ) → IfSome (slice_index_or results n None) (λ ended. ended_action ended ≡ n)
  pub fits : (n : ℕ) → IsTrueTo ms plan n (done_at (action_results_of results) n)
