use Rattle.tf_laws.proofs.Journals.{journals_agree}
use Rattle.tf_laws.proofs.reports.journals_agree.Goals as goal

pub returns : goal.returns
returns c = journals_agree c.reports_are_one.ensures
