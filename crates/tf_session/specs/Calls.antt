-- The calls of an apply with providers outside the program.
use Rattle.std.specs.List.{Contains, list_any}
use Rattle.std.specs.Option.{option_map_or}
use Rattle.std.specs.Prelude.{◌≡◌, ◌+◌, ◌≤◌, ◌||◌, ◌++◌, ◌∷◌, ◌⊎◌, [], Bool, ℕ, List, Some, false, is_some, length, map, slice_get, take, true, vec_capacity}
use Rattle.tf_provider_log.specs.LogEntry.{LogEntryView, begun, log_entry_of, replied}
use Rattle.tf_provider_log.specs.Replayed.{is_about}
use Rattle.tf_provider_log.specs.declared.entry.LogEntry.TheVariants.{Answered}
use Rattle.tf_provider_protocol.specs.Meaning.{Asked, asked}
use Rattle.tf_provider_protocol.specs.declared.request.Reply.{Reply}
use Rattle.tf_provider_remote.specs.Flights.{has_call, is_call}
use Rattle.tf_provider_remote.specs.declared.flights.Flight.{Flight}
use Rattle.tf_session.specs.declared.calls.Calls.{Calls}
use Rattle.tf_session.specs.declared.session.Session.{Session}

-- a request waits, is in flight, or has ended
abbrev pub has_begun : Asked → Calls → Bool
has_begun q c = (has_call q c.waiting.flights.items || has_call q c.flights.flights.items) || list_any (is_about q) (map log_entry_of c.entries.items)

-- the request that an entry of a log is about
abbrev pub request_in : LogEntryView → Asked
request_in (begun q) = q
request_in (replied q a) = q

-- the calls that were made: those in flight, and those that ended
abbrev pub calls_made : Calls → List Asked
calls_made c = map (λ f. asked f.request) c.flights.flights.items ++ map (λ e. request_in (log_entry_of e)) c.entries.items

-- the requests that wait, and the calls that were made
abbrev pub calls_taken_up : Calls → List Asked
calls_taken_up c = map (λ f. asked f.request) c.waiting.flights.items ++ calls_made c

-- there is memory for some more requests in flight, and for the replies to these and to those that are in flight
pub record HasRoomFor (n : ℕ) (c : Calls) : Type 0 where
  pub flights : length c.flights.flights.items + n ≤ vec_capacity c.flights.flights
  pub replies : length c.flights.flights.items + length c.entries.items + n ≤ vec_capacity c.entries

-- nothing more is begun
abbrev pub is_closed : Session → Bool
is_closed s = is_some s.closing

-- the first reason to begin nothing more is the file that stops an apply
abbrev pub is_stopped : Session → Bool
is_stopped s = option_map_or (λ c. c.is_stop) s.closing false

-- No call is forgotten: each call that was made is in flight or has ended, and each call that had ended still has its reply.
pub record AreKept (old new : Calls) : Type 0 where
  pub made : (q : Asked) → Contains (calls_made old) q → Contains (calls_made new) q
  pub ended : take (length old.entries.items) new.entries.items ≡ old.entries.items

-- no call is taken up but these
pub record TakesUpOnly (requests : List Asked) (old new : Calls) : Type 0 where
  pub each : (q : Asked) → Contains (calls_taken_up new) q → Contains (calls_taken_up old) q ⊎ Contains requests q

-- A provider's reply is noted as the answer to the request in flight that has its number and was sent to it. Otherwise nothing is
-- noted, and the provider was lost or nothing more is begun.
abbrev pub IsNoted : ℕ → ℕ → Reply → Session → Session → Type 0
IsNoted provider id reply old new =
    ((new.calls.entries.items ≡ old.calls.entries.items) × ((slice_get old.lost.items provider ≡ Some true) ⊎ (is_closed new ≡ true)))
    ⊎ ((f : Flight) × Contains old.calls.flights.flights.items f × (f.id ≡ id) × (f.provider ≡ provider) × (new.calls.entries.items ≡ old.calls.entries.items ++ Answered f.request reply ∷ []))

-- A session goes on with the same types of providers. It forgets no call, and takes up no call but these requests. A request that waits is
-- sent unless nothing more is begun.
pub record Continues (requests : List Asked) (old new : Session) : Type 0 where
  pub types : new.types ≡ old.types
  pub calls : AreKept old.calls new.calls
  pub closed : is_closed old ≡ true → is_closed new ≡ true
  pub taken_up : (q : Asked) → Contains (calls_taken_up old.calls) q → (is_closed new ≡ true) ⊎ Contains (calls_taken_up new.calls) q
  pub only : TakesUpOnly requests old.calls new.calls

-- a call of the same operation on the same object waits or was made, or nothing more is begun
abbrev pub IsTakenUp : Asked → Session → Type 0
IsTakenUp q s = (is_closed s ≡ true) ⊎ (list_any (is_call q) (calls_taken_up s.calls) ≡ true)

-- a call of the same operation on the same object was made, or nothing more is begun
abbrev pub IsMade : Asked → Session → Type 0
IsMade q s = (is_closed s ≡ true) ⊎ (list_any (is_call q) (calls_made s.calls) ≡ true)
