use Rattle.tf_expand_keys.proofs.Growing.{Known, instances_stay, environments_grow}
use Rattle.tf_expand_keys.proofs.standing_laws.instances_stay.Goals as goal

pub returns : goal.returns
returns c =
    let known : Known = record { same = c.refinement_is_an_order.ensures.reflexive; meaning = c.expr_knowledge_grows.ensures } in
    record { instances = instances_stay known; environments = environments_grow known }
