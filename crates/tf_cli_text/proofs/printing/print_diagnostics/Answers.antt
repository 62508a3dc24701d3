use Rattle.tf_cli_text.specs.Shown.{diagnostic_line}
use Rattle.tf_cli_lines.proofs.Writes.{start_at}
use Rattle.tf_walk_report.specs.Diagnostics.{diagnostic_of}
use Rattle.tf_cli_text.proofs.printing.print_diagnostics.Goals as goal

pub returns-in_err-print_diagnostic-clause-part : goal.returns-in_err-print_diagnostic-clause-part
returns-in_err-print_diagnostic-clause-part g c =
    start_at (λ d. diagnostic_line (diagnostic_of d)) c.args.diagnostics.now c.loop-diagnostic.diagnostic-index _ _ _ _ c.diagnostic-item.is c.loop-diagnostic-test.true c.loop-diagnostic.invariant c.print_diagnostic.ensures.part
