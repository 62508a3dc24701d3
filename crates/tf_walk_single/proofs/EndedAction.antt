-- How one action ends.
use Rattle.std.proofs.Common.{◌≡◌, ℕ, true, false, List, Option, Some, refl}
use Rattle.std.specs.Prelude.{slice_get}
use Rattle.std.specs.List.{list_all}
use Rattle.tf_plan_data.specs.Action.{ActionView}
use Rattle.tf_graph.specs.Digraph.{predecessors_of}
use Rattle.tf_graph.specs.Solutions.{seen_by}
use Rattle.tf_plan_data.specs.Plan.{PlanView}
use Rattle.tf_provider_protocol.specs.Meaning.{Meaning}
use Rattle.tf_walk_action.proofs.Calling.{run_at}
use Rattle.tf_walk_action.specs.Outcome.{ActionResultView, skipped, Requests, is_good, call_at, call_with, objects_by}
use Rattle.tf_walk_action.specs.Run.{IsRun}
use Rattle.tf_walk_single.specs.Ends.{IsEnd, done_in}
use Rattle.tf_walk_single.proofs.Seen.{all_good-seen}

module _ (ms : List Meaning) (requests : Requests) (plan : PlanView) (n : ℕ) (ends : List (Option ActionResultView)) where
  abbrev seen : List (ℕ × ActionResultView)
  seen = seen_by (done_in ends) (predecessors_of plan.order n)

  -- an action is skipped where one directly before it isn't good
  pub ends_skipped : list_all (λ k. is_good (done_in ends k)) (predecessors_of plan.order n) ≡ false → IsEnd ms requests plan n seen skipped
  ends_skipped bad = rw (all_good-seen (done_in ends) (predecessors_of plan.order n), bad) refl

  -- and else it has what comes of it
  pub ends_run : (d : ActionResultView) → list_all (λ k. is_good (done_in ends k)) (predecessors_of plan.order n) ≡ true → IsRun (call_at ms requests plan n seen) d → IsEnd ms requests plan n seen d
  ends_run d good run = rw (all_good-seen (done_in ends) (predecessors_of plan.order n), good) run

  -- which is what comes of the request that was made for it
  pub ends_asked : (a : ActionView) (call d : ActionResultView) → slice_get plan.actions n ≡ Some a → list_all (λ k. is_good (done_in ends k)) (predecessors_of plan.order n) ≡ true
      → call ≡ call_with ms requests plan (objects_by plan seen) a → IsRun call d → IsEnd ms requests plan n seen d
  ends_asked a call d here good made run = ends_run d good (run_at ms requests plan n seen a call d here made run)
