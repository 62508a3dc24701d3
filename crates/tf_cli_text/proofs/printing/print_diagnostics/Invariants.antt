-- the lines of the diagnostics passed are printed
use Rattle.std.proofs.Common.{take}
use Rattle.std.specs.Io.KnownBytes.{Appends}
use Rattle.tf_cli_text.specs.Shown.{diagnostic_lines}
use Rattle.tf_cli_text.proofs.printing.print_diagnostics.Given as goal

abbrev pub invariant-loop-diagnostic : goal.invariant-loop-diagnostic
invariant-loop-diagnostic g l = Appends (g.E.Write.contents l.fn.err) (g.E.Write.contents l.err) (diagnostic_lines (take l.diagnostic-index l.diagnostics))
