use Rattle.tf_expr_eval.proofs.Growing.{template_grows}
use Rattle.tf_expr_eval.proofs.laws.knowledge_grows.Goals as goal

pub returns : goal.returns
returns c = λ before after h template v w p q.
    template_grows
    (record {
      same = c.refinement_is_an_order.ensures.reflexive;
      unary = c.unary_grows.ensures;
      binary = c.binary_grows.ensures;
      attribute = c.parts_grow.ensures.attribute;
      index = c.parts_grow.ensures.index;
      listed = c.collections_grow.ensures.list;
      joined = c.joined_grows.ensures;
      call = c.calls_grow.ensures;
    })
    before after h template.0 template.1 v w p q
