-- what waited is sent, and then the call is made
use Rattle.tf_session.proofs.Kept.{continues_on}
use Rattle.tf_session.proofs.session.Session.make.Goals as goal

pub returns-in_ok-flush-in-None-clause-continues : goal.returns-in_ok-flush-in-None-clause-continues
returns-in_ok-flush-in-None-clause-continues g c = continues_on _ c.call.result _ _ _ c.in_ok-flush-in-None.ensures.continues c.call.ensures.continues
