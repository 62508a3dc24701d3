use Rattle.std.proofs.Common.{◌≡◌, subst}
use Rattle.std.specs.Prelude.{MatchOption, true, false}
use Rattle.tf_walk_action.specs.ResultViews.{ended_action}
use Rattle.tf_walk_action.specs.Outcome.{ActionResultView, is_good}
use Rattle.tf_walk_workers.specs.Reading.{done_in}
use Rattle.tf_walk_workers.proofs.TrueEnds.{evidence-is}
use Rattle.tf_walk_workers.proofs.reading.Reading.not_good.Goals as goal

pub returns : goal.returns
returns g c =
    let r = c.args.self.now in
    let reported = subst (λ (d : ActionResultView). MatchOption c.not_good.result (is_good d ≡ true) (λ bad. (is_good d ≡ false) × (bad ≡ ended_action c.ended.result.now))) c.ended.ensures.same c.not_good.ensures in
    evidence-is g.N.WalkBrand.meanings g.N.WalkBrand.plan r.action (done_in r) (ended_action c.ended.result.now) c.ended.ensures.own c.ended.ensures.fits c.not_good.result reported
