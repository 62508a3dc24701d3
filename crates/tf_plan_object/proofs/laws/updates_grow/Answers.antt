use Rattle.tf_plan_object.proofs.KeptGrowing.{updates_grow}
use Rattle.tf_plan_object.proofs.laws.updates_grow.Goals as goal

pub returns : goal.returns
returns c = updates_grow
