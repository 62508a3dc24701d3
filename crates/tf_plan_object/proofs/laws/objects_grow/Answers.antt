use Rattle.tf_plan_object.proofs.Growing.{Known, conversion_grows, instances_grow}
use Rattle.tf_plan_object.proofs.laws.objects_grow.Goals as goal

pub returns : goal.returns
returns c =
    let known : Known =
    record { same = c.refinement_is_an_order.ensures.reflexive; lists = c.lists_stand_for_sets.ensures.refines; meaning = c.expr_knowledge_grows.ensures; seen = c.instances_stay.ensures.environments } in
    record { conversion = conversion_grows known.lists; instances = instances_grow known }
