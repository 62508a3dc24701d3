use Rattle.tf_expr_eval.proofs.ExprGrowing.{grows}
use Rattle.tf_expr_eval.proofs.laws.expr_knowledge_grows.Goals as goal

pub returns : goal.returns
returns c = grows (record { same = c.refinement_is_an_order.ensures.reflexive; templates = c.knowledge_grows.ensures; list = c.collections_grow.ensures.list; map = c.collections_grow.ensures.map })
