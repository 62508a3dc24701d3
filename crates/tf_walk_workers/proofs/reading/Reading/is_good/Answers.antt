use Rattle.std.proofs.Common.{sym, ap, ◌∙◌}
use Rattle.tf_walk_action.specs.Outcome.{is_good}
use Rattle.tf_walk_workers.specs.Reading.{done_in}
use Rattle.tf_walk_workers.proofs.TrueEnds.{good-is}
use Rattle.tf_walk_workers.proofs.reading.Reading.is_good.Goals as goal

pub returns-clause-ideal : goal.returns-clause-ideal
returns-clause-ideal g c = λ good.
    good-is g.N.WalkBrand.meanings g.N.WalkBrand.plan c.args.self.now.action (done_in c.args.self.now) c.ended.ensures.fits (sym (ap is_good c.ended.ensures.same) ∙ sym c.is_good.ensures ∙ good)
