-- The content of a log, as plain data.
use Rattle.std.specs.Prelude.{List, map, Option}
pub use Rattle.tf_provider_log.specs.Header.{HeaderView}
use Rattle.tf_provider_protocol.specs.Meaning.{Asked, Answer, asked, answered}
use Rattle.tf_provider_log.specs.declared.entry.LogEntry.{LogEntry}
use Rattle.tf_provider_log.specs.declared.entry.LogEntry.TheVariants as entry
use Rattle.tf_provider_log.specs.declared.entry.Log.{Log}

-- what a line says: that a request is begun, or the answer to one, which is absent if memory ran out
pub data LogEntryView : Type 0 where
  begun : Asked → LogEntryView
  replied : Asked → Option Answer → LogEntryView

pub record LogView : Type 0 where
  pub header : HeaderView
  pub entries : List LogEntryView

-- what an entry says
abbrev pub log_entry_of : LogEntry → LogEntryView
log_entry_of (entry.Begun r) = begun (asked r)
log_entry_of (entry.Answered r a) = replied (asked r) (answered a)

-- the content of a log
abbrev pub log_of : Log → LogView
log_of log = record { header = log.header; entries = map log_entry_of log.entries.items }
