use Rattle.std.proofs.Common.{ℕ, sym, subst}
use Rattle.tf_walk_workers.specs.Ideal.{IsEndOf}
use Rattle.tf_walk_workers.proofs.publishing.publish.Goals as goal

pub fill_cell-part-requires-clause-own : goal.fill_cell-part-requires-clause-own
fill_cell-part-requires-clause-own g c =
    subst (λ (n : ℕ). IsEndOf g.N.WalkBrand.meanings g.N.WalkBrand.plan n c.args.end.ended) (sym c.action.ensures) c.requires.own
