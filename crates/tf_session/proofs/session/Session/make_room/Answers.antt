-- what waits is sent, and replies are taken
use Rattle.tf_session.proofs.Kept.{continues_then}
use Rattle.tf_session.proofs.session.Session.make_room.Goals as goal

pub loop-preserved : goal.loop-preserved
loop-preserved g c = continues_then _ _ _ _ c.loop.invariant (continues_then _ _ _ _ c.in_ok-flush.ensures.continues c.receive.ensures)
