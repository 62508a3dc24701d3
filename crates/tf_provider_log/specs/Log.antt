-- What the lines of a log say together.
use Rattle.std.specs.Prelude.{◌≡◌, ◌+◌, ℕ, List, ◌∷◌, [], Option, Some, None, Result, Ok, Err, ⊤}
use Rattle.tf_provider_log.specs.LogEntry.{LogEntryView, HeaderView, LogView}
use Rattle.tf_provider_log.specs.Line.{entry_in, header_in, header_fault, lines_of}
use Rattle.tf_provider_log.specs.declared.fault.LineFault.{LineFault}
use Rattle.tf_provider_log.specs.declared.fault.LineFault.TheVariants.{NotAnEntry}
use Rattle.tf_provider_log.specs.declared.fault.LogFault.{LogFault}
use Rattle.tf_provider_log.specs.declared.fault.LogFault.TheVariants.{Line, OutOfMemory}

-- What a line and those after it say: its entry and the further entries, or the number and fault of the first faulty
-- line. That is the line itself if it says no entry.
abbrev pub entry_then : Option LogEntryView → ℕ → Result (List LogEntryView) (ℕ × LineFault) → Result (List LogEntryView) (ℕ × LineFault)
entry_then None number told = Err (number, NotAnEntry)
entry_then (Some entry) number (Ok entries) = Ok (entry ∷ entries)
entry_then (Some entry) number (Err fault) = Err fault

-- the entries that lines say, if the first line has this number
abbrev pub entries_in : ℕ → List (List ℕ) → Result (List LogEntryView) (ℕ × LineFault)
entries_in number [] = Ok []
entries_in number (line ∷ lines) = entry_then (entry_in line) number (entries_in (number + 1) lines)

-- What a first line and those after it say: the header and the entries, or the number and fault of the first faulty
-- line. That is the first line itself if it says no header.
abbrev pub header_then : Option HeaderView → LineFault → Result (List LogEntryView) (ℕ × LineFault) → Result (Option LogView) (ℕ × LineFault)
header_then None fault told = Err (1, fault)
header_then (Some given) fault (Ok told) = Ok (Some record { header = given; entries = told })
header_then (Some given) fault (Err other) = Err other

-- What a log's lines say: nothing if there is no line. Otherwise the header and the entries, or the number and fault
-- of the first faulty line.
abbrev pub log_in : List (List ℕ) → Result (Option LogView) (ℕ × LineFault)
log_in [] = Ok None
log_in (first ∷ lines) = header_then (header_in first) (header_fault first) (entries_in 2 lines)

-- Why bytes aren't read as a log: this line of it is the first faulty one, or memory ran out.
abbrev pub IsUnread : List ℕ → LogFault → Type 0
IsUnread bytes (Line number fault) = log_in (lines_of bytes) ≡ Err (number, fault)
IsUnread bytes OutOfMemory = ⊤

-- Why a log's first line isn't read: it says no header and has this fault, or memory ran out.
abbrev pub IsHeaderRefused : List ℕ → LogFault → Type 0
IsHeaderRefused line (Line number fault) = (header_in line ≡ None) × (number ≡ 1) × (fault ≡ header_fault line)
IsHeaderRefused line OutOfMemory = ⊤

-- Why the lines after the first aren't read: this is the first one that says no entry, or memory ran out.
abbrev pub IsEntryRefused : List (List ℕ) → LogFault → Type 0
IsEntryRefused lines (Line number fault) = entries_in 2 lines ≡ Err (number, fault)
IsEntryRefused lines OutOfMemory = ⊤
