use Rattle.tf_expand_keys.proofs.Growing.{Known, resolved_names_grow, expansion_grows, plan_grows}
use Rattle.tf_expand_keys.proofs.standing_laws.resolved_names_grow.Goals as goal

pub returns : goal.returns
returns c =
    let known : Known = record { same = c.refinement_is_an_order.ensures.reflexive; meaning = c.expr_knowledge_grows.ensures } in
    record { resolved_names = resolved_names_grow known; expansion = expansion_grows known; plan = plan_grows known }
