-- the actions passed are skipped rightly
use Rattle.std.proofs.Common.{ℕ, ◌<◌}
use Rattle.tf_walk_action.specs.ResultViews.{action_results_of}
use Rattle.tf_walk.specs.Fitting.{IsSkippedRightly}
use Rattle.tf_walk.proofs.fitting.all_fit.Given as goal

abbrev pub invariant-loop-action : goal.invariant-loop-action
invariant-loop-action l = (n : ℕ) → n < l.action → IsSkippedRightly l.order (action_results_of l.results) n
