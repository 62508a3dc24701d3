-- what waits is sent, and then replies are taken
use Rattle.tf_session.proofs.Kept.{continues_then, continues_with}
use Rattle.tf_session.proofs.Served.{all_made, all_made_then}
use Rattle.tf_session.proofs.session.Session.serve.Goals as goal

pub loop-init : goal.loop-init
loop-init g c = record {
  continues = continues_then _ _ _ _ c.in_ok-make_all.ensures.continues (continues_with _ _ _ c.in_ok-flush.ensures.continues);
  made = all_made _ _ _ _ c.in_ok-flush.ensures.continues c.in_ok-flush.ensures.sent c.in_ok-make_all.ensures.taken_up;
}

pub loop-preserved : goal.loop-preserved
loop-preserved g c = record {
  continues = continues_then _ _ _ _ c.loop.invariant.continues (continues_with _ _ _ c.receive.ensures);
  made = all_made_then _ _ _ _ c.receive.ensures c.loop.invariant.made;
}
