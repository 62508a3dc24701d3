-- Laws of all logs.
use Rattle.std.specs.Prelude.{◌≡◌, ◌↔◌, ℕ, true, List, take}
use Rattle.tf_provider_log.specs.LogEntry.{LogEntryView}
use Rattle.tf_provider_log.specs.Replayed.{all_replayed, own_entries}
use Rattle.tf_provider_log.specs.Same.{is_same}
use Rattle.tf_provider_log.specs.True.{AreTrue}
use Rattle.tf_provider_protocol.specs.Meaning.{Asked, Meaning}

-- `is_same` holds exactly if two requests are equal.
abbrev pub SameIsEquality : Type 0
SameIsEquality = (q r : Asked) → (is_same q r ≡ true) ↔ (q ≡ r)

-- Providers that answer from their own true entries are equal to the providers themselves.
abbrev pub ReplayedAreThemselves : Type 0
ReplayedAreThemselves = (ms : List Meaning) (es : List LogEntryView) → AreTrue ms es → all_replayed (own_entries ms es) ms ≡ ms

-- Entries that are true of providers stay so in each beginning of a log.
abbrev pub BeginningsAreTrue : Type 0
BeginningsAreTrue = (ms : List Meaning) (n : ℕ) (es : List LogEntryView) → AreTrue ms es → AreTrue ms (take n es)
