-- the session goes on
use Rattle.std.proofs.Common.{[]}
use Rattle.tf_session.specs.Calls.{Continues}
use Rattle.tf_session.proofs.session.Session.make_room.Given as goal

abbrev pub invariant-loop : goal.invariant-loop
invariant-loop g l = Continues [] l.fn.self l.self
