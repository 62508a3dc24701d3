use Rattle.tf_state_next.proofs.Kept.{none_forgotten}
use Rattle.tf_state_next.proofs.object_laws.nothing_is_forgotten.Goals as goal

pub returns-clause-forgotten : goal.returns-clause-forgotten
returns-clause-forgotten c = none_forgotten
