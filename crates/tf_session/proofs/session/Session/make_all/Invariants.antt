-- the session goes on, and the calls passed are taken up
use Rattle.std.proofs.Common.{map}
use Rattle.std.specs.List.{All, Contains}
use Rattle.std.specs.Vec.Iter.{into_iter_items}
use Rattle.tf_provider_protocol.specs.Meaning.{Asked, asked}
use Rattle.tf_session.specs.Calls.{Continues, IsTakenUp}
use Rattle.tf_session.proofs.session.Session.make_all.Given as goal

abbrev pub invariant-loop-request : goal.invariant-loop-request
invariant-loop-request g l =
    record {
      continues : Continues (map asked l.fn.requests.items) l.fn.self l.self;
      taken_up : All (λ r. IsTakenUp (asked r) l.self) l.yielded;
      left : (q : Asked) → Contains (map asked (into_iter_items l.request-iterator)) q → Contains (map asked l.fn.requests.items) q;
    }
