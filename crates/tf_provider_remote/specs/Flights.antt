-- The requests that were sent and that have no reply yet.
use Rattle.std.specs.Prelude.{◌&&◌, ◌==◌, Bool, ℕ, List, Option, find, get_or, map, not, option_map, true}
use Rattle.std.specs.List.{list_any}
use Rattle.std.specs.Str.{bytes_eq}
use Rattle.tf_provider_log.specs.Same.{is_same_op, is_same_option}
use Rattle.tf_provider_protocol.specs.Meaning.{Asked, asked}
use Rattle.tf_provider_remote.specs.declared.flights.Flight.{Flight}

-- two requests are the same call: the same operation on the same object
abbrev pub is_call : Asked → Asked → Bool
is_call q r = is_same_op q.op r.op && (bytes_eq q.address r.address && is_same_option bytes_eq q.deposed r.deposed)

-- one of the requests in flight is the same call
abbrev pub has_call : Asked → List Flight → Bool
has_call q flights = list_any (is_call q) (map (λ f. asked f.request) flights)

-- a request was sent to a provider and has a number
abbrev pub is_numbered : ℕ → ℕ → Flight → Bool
is_numbered provider id f = (f.id == id) && (f.provider == provider)

-- the provider that the first request in flight was sent to, but for those that are lost
abbrev pub next_provider : List Bool → List Flight → Option ℕ
next_provider lost flights = option_map (λ f. f.provider) (find (λ f. not (get_or lost f.provider true)) flights)
