use Rattle.tf_laws.proofs.Still.{nothing_at_rest}
use Rattle.tf_laws.proofs.Unrefused.{nothing_refused}
use Rattle.tf_laws.proofs.convergence.nothing_is_planned_at_rest.Goals as goal

pub returns : goal.returns
returns c = record { planned = nothing_at_rest; refused = nothing_refused }
