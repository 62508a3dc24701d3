-- What templates and expressions mean where their references were looked up.
use Rattle.std.proofs.Common.{◌≡◌, ◌∙◌, sym, subst, List, Result, Ok, Err, IfOk}
use Rattle.tf_expr_syntax.specs.ExprNames.{named_by}
use Rattle.tf_expr_syntax.specs.ExprTree as exprs
use Rattle.tf_expr_syntax.specs.TemplateNames.{Pair, named}
use Rattle.tf_expr_syntax.specs.TemplateTree as syntax
use Rattle.tf_expr_syntax.specs.declared.fault.EvalFault.{EvalFault}
use Rattle.tf_expr_eval.specs.Environment.{Environment}
use Rattle.tf_expr_eval.specs.ExprMeaning.{meaning as expr_meaning}
use Rattle.tf_expr_eval.specs.Locality.{AgreeOn, TemplatesAreLocal, ExpressionsAreLocal}
use Rattle.tf_expr_eval.specs.Meaning.{template_meaning}
use Rattle.tf_expr.specs.Looked.{AnswerView, answer_in, answers_of, answers_to, environment_of}
use Rattle.tf_expr.specs.WithinLimits.{within_limits}
use Rattle.tf_expr.specs.declared.looked.Looked.{Looked}
use Rattle.tf_expr.proofs.Answering.{all_agreed}
use Rattle.tf_expr.proofs.Limiting.{templates_same, expressions_same}

agree : (env : Environment) (pairs names : List Pair) (answers : List AnswerView) → pairs ≡ names → answers ≡ answers_to env pairs → AgreeOn (answer_in answers) env names
agree env pairs names answers same are =
    subst (AgreeOn (answer_in answers) env) same (subst (λ known. AgreeOn (answer_in known) env pairs) (sym are) (all_agreed env pairs))

-- A template means the same in the answers to what it names.
pub template_means : (env : Environment) (template : syntax.Woven) (pairs : List Pair) (r : Result Looked EvalFault) → TemplatesAreLocal → pairs ≡ named template
    → IfOk r (λ l. answers_of l.answers.items ≡ answers_to (within_limits env) pairs)
    → IfOk r (λ l. template_meaning (environment_of l) template ≡ template_meaning env template)
template_means env template pairs (Ok l) local same are =
    local (environment_of l) (within_limits env) template (agree (within_limits env) pairs (named template) (answers_of l.answers.items) same are) ∙ templates_same env template
template_means env template pairs (Err e) local same are = tt

-- And so does an expression.
pub expression_means : (env : Environment) (expr : exprs.Tree) (pairs : List Pair) (r : Result Looked EvalFault) → ExpressionsAreLocal → pairs ≡ named_by expr
    → IfOk r (λ l. answers_of l.answers.items ≡ answers_to (within_limits env) pairs)
    → IfOk r (λ l. expr_meaning (environment_of l) expr ≡ expr_meaning env expr)
expression_means env expr pairs (Ok l) local same are =
    local (environment_of l) (within_limits env) expr (agree (within_limits env) pairs (named_by expr) (answers_of l.answers.items) same are) ∙ expressions_same env expr
expression_means env expr pairs (Err e) local same are = tt
