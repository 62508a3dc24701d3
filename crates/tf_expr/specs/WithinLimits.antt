-- Limits on what names stand for.
use Rattle.std.specs.Prelude.{◌≡◌}
use Rattle.tf_expr_syntax.specs.ExprTree as exprs
use Rattle.tf_expr_syntax.specs.TemplateTree as syntax
use Rattle.tf_expr_operators.specs.Answer.{limited}
use Rattle.tf_expr_eval.specs.Environment.{Environment}
use Rattle.tf_expr_eval.specs.ExprMeaning.{meaning as expr_meaning}
use Rattle.tf_expr_eval.specs.Meaning.{and_then, template_meaning}

-- the environment with `TooLarge` in place of each value above the limits of weight and depth
abbrev pub within_limits : Environment → Environment
within_limits env first name = and_then (env first name) limited

-- A template means the same in both.
abbrev pub TemplatesKeepLimits : Type 0
TemplatesKeepLimits = (env : Environment) (template : syntax.Woven) → template_meaning (within_limits env) template ≡ template_meaning env template

-- And so does an expression.
abbrev pub ExpressionsKeepLimits : Type 0
ExpressionsKeepLimits = (env : Environment) (expr : exprs.Tree) → expr_meaning (within_limits env) expr ≡ expr_meaning env expr
