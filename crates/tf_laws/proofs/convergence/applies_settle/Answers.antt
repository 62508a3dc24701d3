use Rattle.tf_laws.proofs.Thrice.{reports_settle, second_flags, second_keeps, second_serials, third_keeps, third_nothing}
use Rattle.tf_laws.proofs.convergence.applies_settle.Goals as goal

pub returns : goal.returns
returns c =
    let law = c.known_names_give_known_values.ensures.expressions in
    let instances = c.objects_grow.ensures.instances in
    let grow = c.resolved_names_grow.ensures.resolved_names in
    record { objects = second_keeps law instances grow; second = second_flags law instances grow; serials = second_serials law instances grow; records = third_keeps law instances grow; third = third_nothing law instances grow; reports = reports_settle law instances grow }
