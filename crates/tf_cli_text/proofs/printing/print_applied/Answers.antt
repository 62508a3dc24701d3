use Rattle.tf_cli_lines.proofs.Writes.{both_part}
use Rattle.tf_cli_text.proofs.printing.print_applied.Goals as goal

pub returns-clause-output_part : goal.returns-clause-output_part
returns-clause-output_part g c =
    rw (← c.as_str.ensures.value) (both_part c.save-planned.result _ _ _ _ _ c.save-planned.ensures.whole c.save-planned.ensures.part c.print_report.ensures.output_part)
