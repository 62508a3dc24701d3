-- What is known if all names have known values.
use Rattle.std.specs.Prelude.{◌≡◌, ℕ, true, List, Ok}
use Rattle.tf_expr_syntax.specs.ExprTree as expr
use Rattle.tf_value_data.specs.Known.{known}
use Rattle.tf_value_data.specs.Tree.{Tree}
use Rattle.tf_expr_eval.specs.Environment.{Environment}
use Rattle.tf_expr_eval.specs.ExprMeaning.{meaning}

-- each reference that has a value has a known one
abbrev pub IsKnown : Environment → Type 0
IsKnown env = (first name : List ℕ) (v : Tree) → env first name ≡ Ok v → known v ≡ true

-- If all names have known values, so does each expression.
abbrev pub ExpressionsStayKnown : Type 0
ExpressionsStayKnown = (env : Environment) (e : expr.Tree) (v : Tree) → IsKnown env → meaning env e ≡ Ok v → known v ≡ true
