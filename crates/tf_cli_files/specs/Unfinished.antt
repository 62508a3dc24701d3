-- What a program reads of an interrupted apply.
use Rattle.std.specs.Prelude.{◌≡◌, ℕ, List, [], map, Option, Some, None, Ok, Result}
use Rattle.tf_provider_log.specs.LogEntry.{LogEntryView, LogView, log_entry_of}
use Rattle.tf_provider_log.specs.Line.{lines_of}
use Rattle.tf_provider_log.specs.Log.{log_in}
use Rattle.tf_provider_log.specs.declared.entry.LogEntry.{LogEntry}
use Rattle.tf_provider_log.specs.Replayed.{answer_count, in_flight}
use Rattle.tf_provider_protocol.specs.Meaning.{asked}
use Rattle.tf_cli_files.specs.declared.unfinished.UnfinishedApply.{UnfinishedApply}

-- What a log records of the apply: its input, how many results there are, and the calls without a result.
pub record IsUnfinished (log : LogView) (unfinished : UnfinishedApply) (told : List LogEntryView) : Type 0 where
  pub header : unfinished.header ≡ log.header
  pub answers : unfinished.answers ≡ answer_count log.entries
  pub in_flight : map asked unfinished.in_flight.items ≡ in_flight log.entries
  pub entries : told ≡ log.entries

-- what is read of a log: nothing if it has no whole line, otherwise what it records
abbrev pub IsUnfinishedIn : List ℕ → Option (UnfinishedApply × List LogEntryView) → Type 0
IsUnfinishedIn bytes None = log_in (lines_of bytes) ≡ Ok None
IsUnfinishedIn bytes (Some told) = (log : LogView) × (log_in (lines_of bytes) ≡ Ok (Some log)) × IsUnfinished log told.0 told.1
