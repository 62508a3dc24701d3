use Rattle.tf_state_next.proofs.OneAfter.{after_one}
use Rattle.tf_state_next.proofs.object_laws.after_is_one.Goals as goal

pub returns-clause-one : goal.returns-clause-one
returns-clause-one c = after_one
