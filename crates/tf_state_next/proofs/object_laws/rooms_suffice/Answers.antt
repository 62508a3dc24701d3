use Rattle.tf_state_next.proofs.SavedCounted.{rooms_enough}
use Rattle.tf_state_next.proofs.object_laws.rooms_suffice.Goals as goal

pub returns : goal.returns
returns c = rooms_enough
