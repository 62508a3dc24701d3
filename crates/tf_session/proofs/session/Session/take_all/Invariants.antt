-- the session goes on
use Rattle.std.proofs.Common.{[]}
use Rattle.tf_session.specs.Calls.{Continues}
use Rattle.tf_session.proofs.session.Session.take_all.Given as goal

abbrev pub invariant-loop-response : goal.invariant-loop-response
invariant-loop-response g l = Continues [] l.fn.self l.self
