use Rattle.tf_plan_object.proofs.Keeping.{updates_argue, updates_keep, updates_named}
use Rattle.tf_plan_object.proofs.laws.updates_keep_what_is_configured.Goals as goal

pub returns : goal.returns
returns c = record { values = updates_keep; arguments = updates_argue; attributes = updates_named }
