use Rattle.tf_walk_outputs.proofs.Leading.{evaluated_where_good, outputs_one}
use Rattle.tf_walk_outputs.proofs.output_laws.outputs_are_one.Goals as goal

pub returns : goal.returns
returns c = record { good = evaluated_where_good; one = outputs_one }
