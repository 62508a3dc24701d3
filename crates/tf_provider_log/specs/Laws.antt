-- What is read from a log that was cut.
use Rattle.std.specs.Prelude.{◌≡◌, ◌<◌, ◌≤◌, ◌++◌, ◌⊎◌, ℕ, List, ◌∷◌, [], length, take, drop, Ok, Some, ⊤}
use Rattle.tf_provider_log.specs.LogEntry.{LogEntryView, HeaderView}
use Rattle.tf_provider_log.specs.Line.{IsEntryLine, IsHeaderLine, lines_of}
use Rattle.tf_provider_log.specs.Log.{log_in}

-- texts, one after another
abbrev pub joined : List (List ℕ) → List ℕ
joined [] = []
joined (text ∷ texts) = text ++ joined texts

-- each text is the line of the entry at its place
abbrev pub AreLines : List LogEntryView → List (List ℕ) → Type 0
AreLines [] [] = ⊤
AreLines (entry ∷ entries) (text ∷ texts) = IsEntryLine entry text × AreLines entries texts
AreLines _ _ = ⊥

-- bytes are less than the first of these texts, or empty if there are no texts
abbrev pub IsTorn : List ℕ → List (List ℕ) → Type 0
IsTorn bytes [] = bytes ≡ []
IsTorn bytes (text ∷ texts) = length bytes < length text

-- Bytes hold exactly the first n of the texts whole: these, one after another, and then less than the next one.
pub record HoldsWhole (texts : List (List ℕ)) (n : ℕ) (bytes : List ℕ) : Type 0 where
  pub within : n ≤ length texts
  pub torn : List ℕ
  pub is_bytes : bytes ≡ joined (take n texts) ++ torn
  pub is_torn : IsTorn torn (drop n texts)

-- Bytes are the first line and exactly the first n of the texts whole, and read as the header and the first n
-- entries.
pub record ReadsAsFar (header : HeaderView) (written : List ℕ) (entries : List LogEntryView) (texts : List (List ℕ)) (bytes : List ℕ) : Type 0 where
  pub n : ℕ
  pub behind : List ℕ
  pub is_bytes : bytes ≡ written ++ behind
  pub whole : HoldsWhole texts n behind
  pub reads : log_in (lines_of bytes) ≡ Ok (Some record { header = header; entries = take n entries })

-- If a log was written line by line, each of its beginnings, cut at any byte, either is less than the first line and
-- has no whole line, or reads as the header and the entries that are whole in it.
abbrev pub BeginningsAreRead : Type 0
BeginningsAreRead =
    (header : HeaderView) (written : List ℕ) (entries : List LogEntryView) (texts : List (List ℕ)) (bytes rest : List ℕ) → IsHeaderLine header written → AreLines entries texts → bytes ++ rest ≡ written ++ joined texts
    → ((length bytes < length written) × (lines_of bytes ≡ [])) ⊎ ReadsAsFar header written entries texts bytes
