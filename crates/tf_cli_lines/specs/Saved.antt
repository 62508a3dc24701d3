-- The content of a writer after a text was written to it.
use Rattle.std.specs.Prelude.{◌≤◌, ℕ, List, length, take, Option}
use Rattle.std.specs.Io.KnownBytes.{Appends}

-- a beginning of the text was appended
abbrev pub AppendsStart : Option (List ℕ) → Option (List ℕ) → List ℕ → Type 0
AppendsStart old new text = (n : ℕ) × (n ≤ length text) × Appends old new (take n text)
