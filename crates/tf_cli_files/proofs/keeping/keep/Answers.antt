use Rattle.tf_cli_files.proofs.keeping.keep.Goals as goal

pub returns-in-Some-clause-whole : goal.returns-in-Some-clause-whole
returns-in-Some-clause-whole g c = rw c.in-Some.is c.write_status.ensures.whole

pub returns-in-Some-clause-part : goal.returns-in-Some-clause-part
returns-in-Some-clause-part g c = rw c.in-Some.is c.write_status.ensures.part
