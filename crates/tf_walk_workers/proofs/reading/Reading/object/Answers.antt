use Rattle.std.proofs.Common.{◌≡◌, IfOk, subst}
use Rattle.tf_walk_action.specs.Objects.{object_of}
use Rattle.tf_value_data.specs.Tree.{tree_of}
use Rattle.tf_walk_workers.proofs.TrueEnds.{object-is}
use Rattle.tf_walk_workers.specs.Reading.{done_in}
use Rattle.tf_walk_workers.proofs.reading.Reading.object.Goals as goal

pub returns-clause-ideal : goal.returns-clause-ideal
returns-clause-ideal g c =
    object-is g.N.WalkBrand.meanings g.N.WalkBrand.plan c.args.self.now.action (done_in c.args.self.now) c.ended.ensures.fits c.object_of.result (subst (λ d. IfOk c.object_of.result (λ value. tree_of value ≡ object_of d)) c.ended.ensures.same c.object_of.ensures)
