-- one reply more is taken
use Rattle.tf_session.proofs.Kept.{continues_then}
use Rattle.tf_session.proofs.session.Session.take_all.Goals as goal

pub loop-response-preserved : goal.loop-response-preserved
loop-response-preserved g c = continues_then _ _ _ _ c.loop-response.invariant c.take.ensures.continues
