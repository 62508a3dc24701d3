use Rattle.tf_cli_text.proofs.printing.print_error.Goals as goal

pub returns-clause-whole : goal.returns-clause-whole
returns-clause-whole g c = rw (← c.format.ensures.text) c.save_all.ensures.whole

pub returns-clause-part : goal.returns-clause-part
returns-clause-part g c = rw (← c.format.ensures.text) c.save_all.ensures.part
