-- When a log's entries are true.
use Rattle.std.specs.Prelude.{◌≡◌, ℕ, List, All, Some, IfSome, ⊤}
use Rattle.tf_provider_log.specs.LogEntry.{LogEntryView, replied}
use Rattle.tf_provider_log.specs.Line.{IsEntryLine}
use Rattle.tf_provider_protocol.specs.Meaning.{Meaning, first_with}

-- An entry is true of a provider if its answer is the provider's answer to the request.
abbrev pub IsTrueOf : Meaning → LogEntryView → Type 0
IsTrueOf m (replied r (Some a)) = a ≡ m.answer r
IsTrueOf m _ = ⊤

-- An entry is true of some providers if it is true of the first one that has its type, or if no provider has it.
abbrev pub IsTrueAmong : List Meaning → LogEntryView → Type 0
IsTrueAmong ms (replied r (Some a)) = IfSome (first_with r.type_name ms) (λ m. a ≡ m.answer r)
IsTrueAmong ms _ = ⊤

-- each of some entries is true of some providers
abbrev pub AreTrue : List Meaning → List LogEntryView → Type 0
AreTrue ms es = All (IsTrueAmong ms) es

-- A text is the line of this entry, which is true of a provider.
pub record IsTrueLine (m : Meaning) (entry : LogEntryView) (text : List ℕ) : Type 0 where
  pub is_true : IsTrueOf m entry
  pub is_line : IsEntryLine entry text
