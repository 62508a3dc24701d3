use Rattle.tf_cli_lines.proofs.Writes.{both_part}
use Rattle.tf_cli_text.proofs.printing.print_report.Goals as goal

pub returns-in_err-summed-clause-errors_part : goal.returns-in_err-summed-clause-errors_part
returns-in_err-summed-clause-errors_part g c =
    rw (← c.report-report.ensures, ← c.deref.ensures.value) (both_part c.print_diagnostics-told.result _ _ _ _ _ c.print_diagnostics-told.ensures.whole c.print_diagnostics-told.ensures.part c.print_warnings-warned.ensures.part)

pub returns-clause-errors_part : goal.returns-clause-errors_part
returns-clause-errors_part g c =
    rw (← c.report-report.ensures, ← c.deref.ensures.value) (both_part c.print_diagnostics-told.result _ _ _ _ _ c.print_diagnostics-told.ensures.whole c.print_diagnostics-told.ensures.part c.print_warnings-warned.ensures.part)
