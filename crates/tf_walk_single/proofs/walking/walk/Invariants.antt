-- What was done so far; the free actions are left.
use Rattle.std.proofs.Common.{◌≡◌, cond, map, option_map}
use Rattle.std.specs.Prelude.{sum_by}
use Rattle.tf_claim.specs.Ledger.{is_free}
use Rattle.tf_plan_data.specs.Plan.{plan_of}
use Rattle.tf_walk_action.specs.ResultViews.{action_result_of}
use Rattle.tf_walk_single.specs.Ends.{IsSoFar, IsStaged}
use Rattle.tf_walk_single.specs.ResolvedMemo.{IsTrueResolvedMemo}
use Rattle.tf_walk_single.proofs.walking.walk.Given as goal

abbrev pub invariant-loop-permit : goal.invariant-loop-permit
invariant-loop-permit g l =
    let ms = map (λ b. (goal.Provider-dyn g (b.vtable, b.value)).meaning b.value) l.providers in
    let ends = map (option_map action_result_of) l.results in
    record {
      so_far : IsSoFar ms (plan_of l.plan) ends l.journal.entries;
      staged : IsStaged l.book.stages ends;
      book : l.book.graph ≡ l.plan.order;
      graph : l.journal.graph ≡ l.plan.order;
      memo : IsTrueResolvedMemo (plan_of l.plan) ends l.memo;
    }

abbrev pub decreases-loop-permit : goal.decreases-loop-permit
decreases-loop-permit g l = sum_by (λ s. cond (is_free s) 1 0) l.book.stages
