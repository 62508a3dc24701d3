-- Laws of all expressions and their checks.
use Rattle.std.specs.Prelude.{◌≡◌, ℕ, List}
use Rattle.serde_json.specs.Data.{Data}
use Rattle.tf_config_refusal.specs.Check.{IsFirst}
use Rattle.tf_expr_json.specs.Demand.{AreMet, IsMet, Fails}
use Rattle.tf_expr_json.specs.Reading.{expr_checks, IsExpr}
use Rattle.tf_expr_syntax.specs.ExprTree.{Tree}
use Rattle.tf_expr_json.specs.declared.fault.ExprCause.{ExprCause}

-- All checks of a JSON tree that is an expression are met.
abbrev pub ExpressionIsFaultless : Type 0
ExpressionIsFaultless = (place : List (List ℕ)) (json : Data) (e : Tree) → IsExpr json e → AreMet (expr_checks place json)

-- A JSON tree whose checks are all met is an expression.
abbrev pub FaultlessIsExpression : Type 0
FaultlessIsExpression = (place : List (List ℕ)) (json : Data) → AreMet (expr_checks place json) → (e : Tree) × IsExpr json e

-- A JSON tree is at most one expression.
abbrev pub ExpressionIsOne : Type 0
ExpressionIsOne = (json : Data) (e f : Tree) → IsExpr json e → IsExpr json f → e ≡ f

-- A JSON tree with a first fault is no expression.
abbrev pub FaultyIsNone : Type 0
FaultyIsNone = (place : List (List ℕ)) (json : Data) (e : Tree) (at : List ℕ) (cause : ExprCause) → IsFirst IsMet Fails at cause (expr_checks place json) → ¬ IsExpr json e

-- The first fault of a JSON tree is at one place.
abbrev pub FirstPlaceIsOne : Type 0
FirstPlaceIsOne = (place : List (List ℕ)) (json : Data) (at at' : List ℕ) (cause cause' : ExprCause) → IsFirst IsMet Fails at cause (expr_checks place json)
    → IsFirst IsMet Fails at' cause' (expr_checks place json) → at ≡ at'
