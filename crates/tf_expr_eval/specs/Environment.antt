-- The values of an expression's references.
use Rattle.std.specs.Prelude.{◌≡◌, ℕ, List, Ok}
use Rattle.tf_expr_operators.specs.Answer.{Answer}
use Rattle.tf_value_data.specs.Tree.{Tree}
use Rattle.tf_value_data.specs.Refinement.{Refines}

-- An environment gives each reference, by the names before and after its dot, a value or a fault.
abbrev pub Environment : Type 0
Environment = List ℕ → List ℕ → Answer

-- One environment refines to another if, for each reference to which both give a value, the first value refines to
-- the second.
abbrev pub RefinesTo : Environment → Environment → Type 0
RefinesTo before after =
    (first name : List ℕ) (v w : Tree) → before first name ≡ Ok v → after first name ≡ Ok w → Refines v w
