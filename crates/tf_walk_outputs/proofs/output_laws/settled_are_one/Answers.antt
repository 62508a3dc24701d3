use Rattle.tf_walk_outputs.proofs.Solved.{settled_one, settled_exist}
use Rattle.tf_walk_outputs.proofs.output_laws.settled_are_one.Goals as goal

pub returns : goal.returns
returns c = record { one = settled_one; exist = settled_exist }
