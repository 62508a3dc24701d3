-- the requests so far are in flight, and there is memory for the others
use Rattle.std.proofs.Common.{◌≡◌, ◌++◌, length, map, true}
use Rattle.std.specs.Vec.Iter.{into_iter_items}
use Rattle.tf_session.specs.Calls.{HasRoomFor, is_closed}
use Rattle.tf_session.proofs.session.Session.write_all.Given as goal

abbrev pub invariant-loop-announced : goal.invariant-loop-announced
invariant-loop-announced g l =
    record {
      same : (l.self.types ≡ l.fn.self.types) × (l.self.calls.waiting ≡ l.fn.self.calls.waiting) × (l.self.calls.entries ≡ l.fn.self.calls.entries);
      sent : l.self.calls.flights.flights.items ≡ l.fn.self.calls.flights.flights.items ++ map (λ a. a.message) l.yielded;
      room : HasRoomFor (length (into_iter_items l.announced-iterator)) l.self.calls;
      closed : is_closed l.fn.self ≡ true → is_closed l.self ≡ true;
    }
