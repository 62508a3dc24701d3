-- none of the requests passed is the same call
use Rattle.std.proofs.Common.{◌≡◌, drop}
use Rattle.tf_provider_protocol.specs.Meaning.{asked}
use Rattle.tf_provider_remote.specs.Flights.{has_call}
use Rattle.tf_provider_remote.proofs.flights.Flights.has.Given as goal

abbrev pub invariant-loop-flight : goal.invariant-loop-flight
invariant-loop-flight l =
    has_call (asked l.request) l.self.flights.items ≡ has_call (asked l.request) (drop l.flight-index l.self.flights.items)
