use Rattle.std.proofs.Common.{◌∙◌}
use Rattle.tf_walk_workers.proofs.publishing.WalkClaims.finish.Goals as goal

pub returns-clause-free : goal.returns-clause-free
returns-clause-free c = rw (← c.self.view_is) (λ e below from. c.finish.ensures.free e below (from ∙ c.action-action.ensures))
