-- the actions passed are good in every ideal
use Rattle.std.proofs.Common.{◌<◌, ℕ, get_or}
use Rattle.tf_walk_workers.specs.Ideal.{IsGoodInEach}
use Rattle.tf_walk_workers.proofs.seeing.first_not_good.Given as goal

abbrev pub invariant-loop-action : goal.invariant-loop-action
invariant-loop-action g l =
    (i : ℕ) → i < l.action-index → IsGoodInEach g.N.WalkBrand.meanings g.N.WalkBrand.plan (get_or l.actions i 0)
