-- The answers in the entries of a log, the entries of each provider, and the requests in flight.
use Rattle.std.specs.Prelude.{ℕ, Bool, false, not, if◌then◌else◌, List, [], ◌∷◌, filter, filter_map, count_by, Option, Some, None, is_some, unwrap_or}
use Rattle.std.specs.List.{list_any}
use Rattle.std.specs.Option.{option_or}
use Rattle.tf_provider_log.specs.LogEntry.{LogEntryView, begun, replied}
use Rattle.tf_provider_log.specs.Same.{is_same}
use Rattle.tf_provider_protocol.specs.Meaning.{Asked, Answer, Meaning}

-- the answer of an entry, if it answers the same request
abbrev pub answer_of : LogEntryView → Asked → Option Answer
answer_of (replied q a) r = if is_same q r then a else None
answer_of (begun q) r = None

-- the first answer of the entries to the same request
abbrev pub answer_in : List LogEntryView → Asked → Option Answer
answer_in [] r = None
answer_in (e ∷ es) r = option_or (answer_of e r) (answer_in es r)

-- a provider that answers from entries, and answers any other request as the given provider, whose schemas it has
abbrev pub replayed : List LogEntryView → Meaning → Meaning
replayed es m = record { answer = λ r. unwrap_or (answer_in es r) (m.answer r); schema_of = m.schema_of }

-- each provider with the entries at its place
abbrev pub all_replayed : List (List LogEntryView) → List Meaning → List Meaning
all_replayed (es ∷ others) (m ∷ ms) = replayed es m ∷ all_replayed others ms
all_replayed _ _ = []

-- the type of the object that an entry is about
abbrev pub type_in : LogEntryView → List ℕ
type_in (begun r) = r.type_name
type_in (replied r a) = r.type_name

-- a provider has the type of an entry
abbrev pub has_its_type : Meaning → LogEntryView → Bool
has_its_type m e = is_some (m.schema_of (type_in e))

-- The entries of each provider: the first has those of its types, and the others share the rest in the same way.
abbrev pub own_entries : List Meaning → List LogEntryView → List (List LogEntryView)
own_entries [] es = []
own_entries (m ∷ ms) es = filter (has_its_type m) es ∷ own_entries ms (filter (λ e. not (has_its_type m e)) es)

-- an entry says that the same request has ended
abbrev pub ends : Asked → LogEntryView → Bool
ends r (replied q a) = is_same q r
ends r (begun q) = false

-- an entry says that the same request is begun or answered
abbrev pub is_about : Asked → LogEntryView → Bool
is_about r (replied q a) = is_same q r
is_about r (begun q) = is_same q r

-- the request that an entry says is begun, if no entry of a log says that it has ended
abbrev pub open_of : List LogEntryView → LogEntryView → Option Asked
open_of es (begun r) = if list_any (ends r) es then None else Some r
open_of es (replied r a) = None

-- the requests that are begun and that no entry says have ended
abbrev pub in_flight : List LogEntryView → List Asked
in_flight es = filter_map (open_of es) es

-- an entry has an answer
abbrev pub has_answer : LogEntryView → Bool
has_answer (replied r a) = is_some a
has_answer (begun r) = false

-- the number of entries with an answer
abbrev pub answer_count : List LogEntryView → ℕ
answer_count es = count_by has_answer es
