use Rattle.tf_provider_log.proofs.Beginnings.{beginnings_read}
use Rattle.tf_provider_log.proofs.laws.beginnings_are_read.Goals as goal

pub returns : goal.returns
returns c = beginnings_read
