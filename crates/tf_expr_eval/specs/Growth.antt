-- Knowledge only grows.
use Rattle.std.specs.Prelude.{◌≡◌, Ok}
use Rattle.tf_expr_syntax.specs.ExprTree as exprs
use Rattle.tf_expr_syntax.specs.TemplateTree as syntax
use Rattle.tf_value_data.specs.Tree.{Tree}
use Rattle.tf_value_data.specs.Refinement.{Refines}
use Rattle.tf_expr_eval.specs.Environment.{Environment, RefinesTo}
use Rattle.tf_expr_eval.specs.ExprMeaning.{meaning as expr_meaning}
use Rattle.tf_expr_eval.specs.Meaning.{template_meaning}

-- If one environment refines to another and a template has a value in both, the first value refines to the second.
abbrev pub KnowledgeGrows : Type 0
KnowledgeGrows = (before after : Environment) → RefinesTo before after → (template : syntax.Woven) (v w : Tree)
    → template_meaning before template ≡ Ok v → template_meaning after template ≡ Ok w → Refines v w

-- The same law for expressions.
abbrev pub ExprKnowledgeGrows : Type 0
ExprKnowledgeGrows = (before after : Environment) → RefinesTo before after → (expr : exprs.Tree) (v w : Tree)
    → expr_meaning before expr ≡ Ok v → expr_meaning after expr ≡ Ok w → Refines v w
