use Rattle.tf_cli_text.proofs.printing.print_rest.Goals as goal

pub returns-in-Ok-clause-output : goal.returns-in-Ok-clause-output
returns-in-Ok-clause-output g c = rw c.in-Ok.is c.print_report.ensures.output_part
