use Rattle.tf_laws.proofs.AskedGrowing.{known_stay, requests_refine}
use Rattle.tf_laws.proofs.asking.requests_grow.Goals as goal

pub returns : goal.returns
returns c =
    let refine = requests_refine c.resolved_names_are_one.ensures.exist c.resolved_names_grow.ensures.resolved_names c.objects_grow.ensures.instances c.updates_grow.ensures in
    record { refine = refine; known = known_stay c.known_values_stay.ensures refine }
