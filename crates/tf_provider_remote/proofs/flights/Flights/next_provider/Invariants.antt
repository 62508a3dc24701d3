-- each request passed was sent to a provider that is lost
use Rattle.std.proofs.Common.{◌≡◌, drop}
use Rattle.tf_provider_remote.specs.Flights.{next_provider}
use Rattle.tf_provider_remote.proofs.flights.Flights.next_provider.Given as goal

abbrev pub invariant-loop-flight : goal.invariant-loop-flight
invariant-loop-flight l =
    next_provider l.lost l.self.flights.items ≡ next_provider l.lost (drop l.flight-index l.self.flights.items)
