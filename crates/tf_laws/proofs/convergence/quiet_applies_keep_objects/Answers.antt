use Rattle.tf_laws.proofs.Quiet.{quiet_keeps}
use Rattle.tf_laws.proofs.convergence.quiet_applies_keep_objects.Goals as goal

pub returns : goal.returns
returns c = quiet_keeps
