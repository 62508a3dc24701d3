-- The texts of why a line isn't written, and why a log isn't read.
use Rattle.std.specs.Prelude.{ℕ, List, ◌++◌, codes, decimal}
use Rattle.tf_provider_log.specs.declared.fault.LineFault.{LineFault}
use Rattle.tf_provider_log.specs.declared.fault.LineFault.TheVariants as line
use Rattle.tf_provider_log.specs.declared.fault.LogFault.{LogFault}
use Rattle.tf_provider_log.specs.declared.fault.LogFault.TheVariants as log
use Rattle.tf_provider_log.specs.declared.fault.Unwritten.{Unwritten}
use Rattle.tf_provider_log.specs.declared.fault.Unwritten.TheVariants as unwritten

-- the text of a fault of a line, which no other fault has
abbrev pub line_fault_text : LineFault → List ℕ
line_fault_text line.NotAHeader = codes "not the first line of a log"
line_fault_text line.UnknownVersion = codes "a log of another version"
line_fault_text line.NotAnEntry = codes "not a line of a log"

-- the text of a fault of a log: the number of the line and its fault, or that memory ran out
abbrev pub log_fault_text : LogFault → List ℕ
log_fault_text (log.Line number fault) = codes "line " ++ (decimal number ++ (codes ": " ++ line_fault_text fault))
log_fault_text log.OutOfMemory = codes "out of memory"

-- the text of why an entry isn't written, which no other reason has
abbrev pub unwritten_text : Unwritten → List ℕ
unwritten_text unwritten.Unfit = codes "a value with a set in it, or nested too deep"
unwritten_text unwritten.OutOfMemory = codes "out of memory"
