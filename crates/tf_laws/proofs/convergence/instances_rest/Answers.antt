use Rattle.tf_laws.proofs.Resting.{answered_rest, untouched_rest}
use Rattle.tf_laws.proofs.convergence.instances_rest.Goals as goal

pub returns : goal.returns
returns c = record { answered = answered_rest; untouched = untouched_rest }
