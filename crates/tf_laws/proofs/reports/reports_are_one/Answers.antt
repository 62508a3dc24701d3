use Rattle.tf_laws.proofs.WholeReports.{reports_one}
use Rattle.tf_laws.proofs.reports.reports_are_one.Goals as goal

pub returns : goal.returns
returns c = reports_one c.requests_exist.ensures.one c.settled_are_one.ensures.one c.outputs_are_one.ensures.one c.keys_are_free.ensures.one c.state_after_is_one.ensures
