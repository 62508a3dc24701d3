use Rattle.std.proofs.Common.{arith}
use Rattle.tf_walk_workers.specs.Ideal.{IsGoodInEach}
use Rattle.tf_walk_workers.proofs.Passed.{all-passed, one-more}
use Rattle.tf_walk_workers.proofs.seeing.first_not_good.Goals as goal

pub loop-action-preserved : goal.loop-action-preserved
loop-action-preserved g c = one-more (IsGoodInEach g.N.WalkBrand.meanings g.N.WalkBrand.plan) c.args.actions.now c.loop-action.action-index c.loop-action.invariant c.in_default.ensures

pub returns : goal.returns
returns g c =
    let past = c.loop-action-test.false in
    all-passed (IsGoodInEach g.N.WalkBrand.meanings g.N.WalkBrand.plan) c.args.actions.now c.loop-action.action-index c.loop-action.invariant (omega arith)
