-- no provider so far is lost
use Rattle.std.proofs.Common.{◌≡◌, false, replicate}
use Rattle.tf_session.proofs.session.Session.new.Given as goal

abbrev pub invariant-loop : goal.invariant-loop
invariant-loop l = l.lost.items ≡ replicate l.counter false
