-- none of the requests passed has the number
use Rattle.std.proofs.Common.{◌≡◌, drop}
use Rattle.std.specs.List.{list_any}
use Rattle.tf_provider_remote.specs.Flights.{is_numbered}
use Rattle.tf_provider_remote.proofs.flights.Flights.place_of.Given as goal

abbrev pub invariant-loop-place : goal.invariant-loop-place
invariant-loop-place l =
    list_any (is_numbered l.provider l.id) l.self.flights.items ≡ list_any (is_numbered l.provider l.id) (drop l.place l.self.flights.items)
