use Rattle.tf_laws.proofs.Due.{excuses_due}
use Rattle.tf_laws.proofs.Named.{excused_named, named_once}
use Rattle.tf_laws.proofs.reports.excuses_are_due.Goals as goal

pub returns : goal.returns
returns c = record { due = excuses_due; once = named_once; named = excused_named }
