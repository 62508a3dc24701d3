use Rattle.std.proofs.Common.{ℕ, sym, subst}
use Rattle.tf_walk_workers.specs.Ideal.{IsEndOf}
use Rattle.tf_walk_workers.proofs.steps.WorkerContext.end_action.Goals as goal

pub publish-requires-clause-own : goal.publish-requires-clause-own
publish-requires-clause-own g c =
    subst (λ (n : ℕ). IsEndOf g.N.WalkBrand.meanings g.N.WalkBrand.plan n c.come_to_end-end.result.ended) (sym c.come_to_end-end.ensures.finished)
    (c.come_to_end-end.ensures.action, c.come_to_end-end.ensures.cause, c.come_to_end-end.ensures.ended)
