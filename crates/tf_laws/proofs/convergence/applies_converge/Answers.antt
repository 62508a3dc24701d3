use Rattle.tf_laws.proofs.Again.{outputs_mean}
use Rattle.tf_laws.proofs.Whole.{converges, refuses_nothing, reports_converge, state_rests}
use Rattle.tf_laws.proofs.convergence.applies_converge.Goals as goal

pub returns : goal.returns
returns c =
    let law = c.known_names_give_known_values.ensures.expressions in
    let instances = c.objects_grow.ensures.instances in
    let grow = c.resolved_names_grow.ensures.resolved_names in
    record { rest = state_rests law instances grow; again = converges law instances grow; reports = reports_converge law instances grow; refused = refuses_nothing law instances grow; outputs = outputs_mean }
