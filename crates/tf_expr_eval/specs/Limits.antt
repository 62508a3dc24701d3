-- The meanings of templates and expressions are within the limits.
use Rattle.std.specs.Prelude.{◌≡◌, Ok}
use Rattle.tf_expr_syntax.specs.ExprTree as exprs
use Rattle.tf_expr_syntax.specs.TemplateTree as syntax
use Rattle.tf_value_data.specs.Measure.{IsWithinLimits}
use Rattle.tf_value_data.specs.Tree.{Tree}
use Rattle.tf_expr_eval.specs.Environment.{Environment}
use Rattle.tf_expr_eval.specs.ExprMeaning.{meaning as expr_meaning}
use Rattle.tf_expr_eval.specs.Meaning.{template_meaning}

-- In any environment, a template's value is within the limits of weight and depth.
abbrev pub TemplatesAreWithinLimits : Type 0
TemplatesAreWithinLimits = (env : Environment) (template : syntax.Woven) (v : Tree) → template_meaning env template ≡ Ok v → IsWithinLimits v

-- In any environment, an expression's value is within the limits of weight and depth.
abbrev pub ExpressionsAreWithinLimits : Type 0
ExpressionsAreWithinLimits = (env : Environment) (expr : exprs.Tree) (v : Tree) → expr_meaning env expr ≡ Ok v → IsWithinLimits v
