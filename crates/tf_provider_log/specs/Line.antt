-- The lines of a log.
use Rattle.std.specs.Prelude.{◌≡◌, ◌++◌, ◌==◌, ℕ, ℤ, pos, List, ◌∷◌, [], Option, Some, None, option_and_then, if◌then◌else◌, All}
use Rattle.std.specs.Ordering.{int_eq}
use Rattle.std.specs.Str.{is_utf8}
use Rattle.serde_json.specs.Data.{Data}
use Rattle.serde_json.specs.Read.{read}
use Rattle.tf_provider_log.specs.LogEntry.{LogEntryView, HeaderView}
use Rattle.tf_provider_log.specs.From.{entry_from, header_from, version_of}
use Rattle.tf_provider_log.specs.declared.fault.LineFault.{LineFault}
use Rattle.tf_provider_log.specs.declared.fault.LineFault.TheVariants.{NotAHeader, UnknownVersion}

-- a byte isn't the end of a line
abbrev pub IsInLine : ℕ → Type 0
IsInLine byte = byte ≡ 10 → ⊥

-- the lines of some bytes that continue a line that has begun: what is before each newline
abbrev pub lines_from : List ℕ → List ℕ → List (List ℕ)
lines_from line [] = []
lines_from line (byte ∷ bytes) = if byte == 10 then line ∷ lines_from [] bytes else lines_from (line ++ byte ∷ []) bytes

-- the whole lines of a text, without what follows the last newline
abbrev pub lines_of : List ℕ → List (List ℕ)
lines_of bytes = lines_from [] bytes

-- the JSON tree of a line, if it is UTF-8 and has one
abbrev pub tree_in : List ℕ → Option Data
tree_in line = if is_utf8 line then read line else None

-- the entry that a line says, if it is the line of one
abbrev pub entry_in : List ℕ → Option LogEntryView
entry_in line = option_and_then entry_from (tree_in line)

-- the header that a log's first line says, if it is the line of one
abbrev pub header_in : List ℕ → Option HeaderView
header_in line = option_and_then header_from (tree_in line)

-- a version other than 1 isn't known
abbrev pub fault_of_version : Option ℤ → LineFault
fault_of_version (Some z) = if int_eq z (pos 1) then NotAHeader else UnknownVersion
fault_of_version None = NotAHeader

-- the fault of a first line that says no header
abbrev pub header_fault : List ℕ → LineFault
header_fault line = fault_of_version (option_and_then version_of (tree_in line))

-- A text is the line of an entry: it ends with the only newline in it, and what is before that says exactly the
-- entry.
pub record IsEntryLine (entry : LogEntryView) (text : List ℕ) : Type 0 where
  pub line : List ℕ
  pub in_line : All IsInLine line
  pub tells : entry_in line ≡ Some entry
  pub is_text : text ≡ line ++ 10 ∷ []

-- A text is the line of a header: it ends with the only newline in it, and what is before that says exactly the
-- header.
pub record IsHeaderLine (header : HeaderView) (text : List ℕ) : Type 0 where
  pub line : List ℕ
  pub in_line : All IsInLine line
  pub tells : header_in line ≡ Some header
  pub is_text : text ≡ line ++ 10 ∷ []
