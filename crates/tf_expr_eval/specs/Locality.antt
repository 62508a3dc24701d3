-- The meaning of an expression depends only on its references.
use Rattle.std.specs.Prelude.{◌≡◌, List}
use Rattle.std.specs.List.{AllByRecursion}
use Rattle.tf_expr_syntax.specs.ExprNames as names
use Rattle.tf_expr_syntax.specs.ExprTree as exprs
use Rattle.tf_expr_syntax.specs.TemplateNames.{Pair, named}
use Rattle.tf_expr_syntax.specs.TemplateTree as syntax
use Rattle.tf_expr_eval.specs.Environment.{Environment}
use Rattle.tf_expr_eval.specs.ExprMeaning.{meaning as expr_meaning}
use Rattle.tf_expr_eval.specs.Meaning.{template_meaning}

-- two environments give each of these references the same answer
abbrev pub AgreeOn : Environment → Environment → List Pair → Type 0
AgreeOn one other pairs = AllByRecursion (λ pair. one pair.0 pair.1 ≡ other pair.0 pair.1) pairs

-- A template means the same in environments that agree on its references.
abbrev pub TemplatesAreLocal : Type 0
TemplatesAreLocal = (one other : Environment) (template : syntax.Woven) → AgreeOn one other (named template) → template_meaning one template ≡ template_meaning other template

-- An expression means the same in environments that agree on its references.
abbrev pub ExpressionsAreLocal : Type 0
ExpressionsAreLocal = (one other : Environment) (expr : exprs.Tree) → AgreeOn one other (names.named_by expr) → expr_meaning one expr ≡ expr_meaning other expr
